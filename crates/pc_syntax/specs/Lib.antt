pub mod Line
pub mod Part
pub mod Sheet
pub mod Sized
pub mod Told
pub mod Tree
pub use Rattle.pc_formula.specs.Grammar
pub use Rattle.pc_formula.specs.Word
