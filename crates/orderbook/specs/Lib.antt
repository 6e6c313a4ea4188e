pub mod Sorted
pub mod Tables
pub mod Trades
pub mod Books
