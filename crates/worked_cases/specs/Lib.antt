pub mod Six
pub mod Block
pub mod Seen
