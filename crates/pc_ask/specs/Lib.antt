pub mod Asking
pub mod inside
