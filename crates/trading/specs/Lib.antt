pub mod Waiting
pub mod Ruling
pub mod Boards
pub mod Tapes
pub mod Shows
pub mod Deeds
pub mod Asked
