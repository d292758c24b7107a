pub mod Text
pub mod Examples
pub mod Sheet
pub mod Laws
