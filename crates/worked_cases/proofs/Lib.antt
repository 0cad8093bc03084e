pub mod Computed
pub mod Listed
pub mod Matrix
pub mod Premised
