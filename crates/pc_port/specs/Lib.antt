pub mod Port
pub mod Shelf
pub mod Memory
pub mod Files
