pub mod Words
pub mod Flips
pub mod Runs
pub mod Formed
pub mod Promises
pub mod Worked
