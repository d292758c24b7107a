pub mod Inputs
pub mod FileTexts
pub mod Held
pub mod Texts
