pub mod Firsts
pub mod Faults
pub mod RoundTrip
pub mod Gathered
pub mod Written
