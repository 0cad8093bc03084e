pub mod Others
pub mod TwoLows
pub mod TableSums
pub mod Refusals
