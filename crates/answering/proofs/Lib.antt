mod Growth
mod Made
mod Paired
mod Single
