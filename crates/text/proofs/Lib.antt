pub mod Marks
pub mod Numerals
pub mod Fields
pub mod ReadsBack
pub mod WritesBack
pub mod Inspecting
pub mod Printing
pub mod Limited
