pub mod Parts
pub mod Marks
pub mod Reached
pub mod Spots
pub mod Bits
pub mod Forms
