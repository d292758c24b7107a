pub mod Checks
pub mod Signs
