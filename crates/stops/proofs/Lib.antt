pub mod Firsts
pub mod Turns
pub mod Merged
pub mod Picks
pub mod Shifts
