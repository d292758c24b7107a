pub mod Verdicts
pub mod Laws
pub mod Entered
pub mod Made
pub mod Drafts
pub mod LineClauses
pub mod inside
