pub mod Digits
pub mod Plain
pub mod Numbers
pub mod Modes
pub mod Fitting
pub mod Parsing
pub mod Decided
