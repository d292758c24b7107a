pub mod Tasks
pub mod PartTasks
pub mod Spent
pub mod Searching
pub mod Calling
pub mod Starting
