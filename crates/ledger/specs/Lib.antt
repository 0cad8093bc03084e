pub mod Lines
pub mod Booking
pub mod Refusals
