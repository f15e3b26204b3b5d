mod Stating
mod Order
mod Names
mod Places
mod Stages
mod Described
mod More
