mod Groups
mod Hosts
mod Lines
mod Rows
mod Tallies
mod Lasting
