pub mod Ends
pub mod First
pub mod Held
pub mod SameLines
pub mod TextLines
pub mod Contents
