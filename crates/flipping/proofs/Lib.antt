pub mod Words
pub mod Holding
pub mod Votes
pub mod Steps
pub mod Exact
pub mod Keeps
