pub mod Derivation
pub mod Fitting
pub mod Reasons
pub mod Refutations
pub mod Shows
pub mod Targets
pub mod Written
pub mod Proof
