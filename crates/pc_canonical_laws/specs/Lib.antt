pub mod Tree
pub mod ReadBack
pub mod Declarations
pub mod Declared
