mod Limits
mod Spelled
