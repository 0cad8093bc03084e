pub mod Within
pub mod Check
pub mod Passes
pub mod Course
pub mod Promises
pub mod Bounds
