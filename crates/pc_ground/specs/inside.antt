pub mod Places
pub mod Fitting
