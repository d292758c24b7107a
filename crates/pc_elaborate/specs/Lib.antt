pub mod Elaboration
pub mod Tests
pub mod FormulaFaults
pub mod Told
pub mod Outcome
pub mod Laws
pub mod Examples
pub mod inside
