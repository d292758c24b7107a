pub mod Words
pub mod View
pub mod Laws
pub mod Examples
-- what only code and proofs of this crate cite
pub mod inside
