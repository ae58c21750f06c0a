pub mod Answering
pub mod Replies
