pub mod Sinks
pub mod Sources
pub mod Written
pub mod Waiting
pub mod Relays
