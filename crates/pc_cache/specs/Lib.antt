pub mod Rows
pub mod Targets
pub mod Lent
pub mod Patches
-- what only code and proofs of this crate cite
pub mod inside
