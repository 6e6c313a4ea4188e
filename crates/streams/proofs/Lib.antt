pub mod Known
pub mod Taking
pub mod Placing
pub mod Relaying
