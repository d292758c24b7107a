pub mod Elements
pub mod Equivalences
pub mod Options
