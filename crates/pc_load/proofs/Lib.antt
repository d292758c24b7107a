pub mod Loading
pub mod OneRefusal
pub mod Outcomes
pub mod Telling
