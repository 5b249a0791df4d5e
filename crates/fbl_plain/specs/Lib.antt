pub mod Plain
pub mod Flights
