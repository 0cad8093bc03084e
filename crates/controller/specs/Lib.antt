pub mod Runs
pub mod Replies
pub mod Frames
