pub mod Fractions
pub mod Ranges
pub mod Rounding
