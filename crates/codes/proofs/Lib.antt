pub mod Parities
pub mod Degrees
pub mod Checks
pub mod Refusals
