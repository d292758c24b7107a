pub mod Told
pub mod Course
pub mod PostLines
pub mod Examples
pub mod inside
