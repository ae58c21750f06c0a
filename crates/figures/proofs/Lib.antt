mod Figured
pub mod Proved
