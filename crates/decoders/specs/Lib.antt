pub mod Question
pub mod Inquiry
pub mod Fit
pub mod Decoding
pub mod Refusals
pub mod Pile
pub mod Six
