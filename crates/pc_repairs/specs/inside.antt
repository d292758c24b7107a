pub mod Ages
pub mod Asking
pub mod Joining
pub mod Tasks
pub mod Walks
