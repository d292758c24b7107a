pub mod Prepared
pub mod Written
pub mod Numbers
pub mod Alike
pub mod Parts
pub mod RowParts
pub mod Once
