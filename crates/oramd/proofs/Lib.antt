mod Looped
mod Program
mod Proxies
mod Rows
