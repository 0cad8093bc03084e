pub mod Bits
pub mod Of
