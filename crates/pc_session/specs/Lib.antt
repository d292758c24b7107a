pub mod Views
pub mod Codes
pub mod Answers
pub mod Causes
pub mod Rules
pub mod Arena
pub mod NoteViews
pub mod Notes
-- what only code and proofs of this crate cite
pub mod inside
