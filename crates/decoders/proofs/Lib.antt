pub mod Sound
pub mod Fits
pub mod Piles
