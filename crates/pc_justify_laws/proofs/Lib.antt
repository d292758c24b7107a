pub mod Named
pub mod Ends
pub mod Moved
pub mod OfSheet
pub mod Entering
pub mod Staying
pub mod OtherParts
pub mod Edited
