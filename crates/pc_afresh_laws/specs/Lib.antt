pub mod Afresh
pub mod Again
pub mod Readers
