pub mod Examples
pub mod Marks
pub mod OneDisplay
pub mod Supports
pub mod Show
pub mod Grid
pub mod Json
pub mod inside
