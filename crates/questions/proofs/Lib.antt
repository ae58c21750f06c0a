pub mod Asked
pub mod Pairs
