pub mod Asked
pub mod Questions
