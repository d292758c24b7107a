pub mod Refs
pub mod Entries
pub mod Levels
pub mod Watching
pub mod TrailView
pub mod Watched
pub mod Over
pub mod Counts
pub mod Propagation
pub mod Laws
pub mod Quiet
pub mod Attached
pub mod Lists
pub mod Bodies
pub mod Listed
-- what only code and proofs of this crate cite
pub mod inside
