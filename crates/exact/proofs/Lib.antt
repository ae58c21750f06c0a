pub mod Represented
pub mod Order
pub mod Ranges
pub mod Rounding
pub mod Arithmetic
pub mod Limits
