pub mod Asking
pub mod Loading
pub mod Repairs
