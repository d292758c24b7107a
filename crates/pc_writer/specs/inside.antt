pub mod Writable
pub mod Scope
