pub mod Banning
pub mod Search
pub mod Ends
pub mod Reasons
