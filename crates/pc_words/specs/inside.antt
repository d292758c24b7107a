pub mod Parts
pub mod Parse
pub mod Seen
