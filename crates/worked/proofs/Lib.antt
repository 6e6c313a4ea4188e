pub mod SameNoted
