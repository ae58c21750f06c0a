pub mod Faults
pub mod Kinds
pub mod Lines
pub mod Streams
pub mod Words
