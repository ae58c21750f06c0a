pub mod Asking
pub mod Composing
pub mod Messages
pub mod Spelling
