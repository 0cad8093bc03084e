pub mod Numbers
pub mod Shape
pub mod Format
pub mod Reading
pub mod Of
pub mod Writing
pub mod Parts
