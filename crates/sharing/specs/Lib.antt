pub mod Shares
pub mod Turns
pub mod Levels
pub mod Keeps
