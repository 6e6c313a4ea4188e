pub mod Stops
pub mod Laws
pub mod Rising
pub mod Slots
pub mod Tables
pub mod Ranking
pub mod Seats
pub mod Priced
