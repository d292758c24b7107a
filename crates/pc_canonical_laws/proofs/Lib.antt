pub mod Cuts
pub mod Scalars
pub mod Words
pub mod Signs
pub mod Named
pub mod Cutting
pub mod CuttingStatements
pub mod Spelled
pub mod Deriving
pub mod Counting
pub mod ReadingBack
pub mod Lines
pub mod Unbroken
pub mod SpelledLists
pub mod Standing
mod CountedTrees
pub mod Sheets
mod Chain
pub mod Entries
mod Numbered
mod Rules
mod StandingTrees
mod Sublists
mod Tables
mod Texts
mod Universes
pub mod Values
mod Whole
