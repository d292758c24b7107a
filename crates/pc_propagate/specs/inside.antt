pub mod IsTrail
pub mod Slots
pub mod LeftOn
pub mod Turns
pub mod Links
pub mod Lists
pub mod Steady
pub mod Stored
