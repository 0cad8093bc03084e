pub mod Meaning
pub mod Offset
pub mod Lows
pub mod Table
pub mod Admission
pub mod Refusals
pub mod Sound
