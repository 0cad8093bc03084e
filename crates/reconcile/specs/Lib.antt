pub mod Words
pub mod Lines
pub mod Spelling
pub mod Chosen
pub mod Asking
