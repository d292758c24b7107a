-- What only the proofs of this crate need.
pub mod Claims
pub mod Steps
