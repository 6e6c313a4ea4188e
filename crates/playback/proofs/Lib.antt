pub mod Boards
pub mod Stepping
pub mod Telling
pub mod OneMore
pub mod Refusing
pub mod Noted
pub mod Placing
pub mod Lawful
