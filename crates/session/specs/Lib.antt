pub mod Faults
pub mod Hearing
pub mod Transcripts
pub mod Turns
pub mod Above
pub mod Refusals
pub mod Laws
