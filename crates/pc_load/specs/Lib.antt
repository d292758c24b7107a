pub mod Refusals
pub mod Outcome
pub mod Laws
pub mod inside
