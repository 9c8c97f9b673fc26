mod Named
mod Numbers
mod Ports
mod Rows
mod TableKeys
