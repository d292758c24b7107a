pub mod Graph
pub mod Marking
pub mod Refuted
