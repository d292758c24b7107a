pub mod Progress
pub mod Taking
