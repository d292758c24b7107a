pub mod Answered
pub mod Choices
pub mod Finding
pub mod Narrowing
pub mod Parts
pub mod Reading
pub mod Stops
pub mod Ways
