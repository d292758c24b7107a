pub mod Declaring
pub mod DeclarationFaults
pub mod Laws
pub mod inside
