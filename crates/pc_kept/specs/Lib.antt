pub mod Kept
pub mod Components
pub mod Laws
pub mod Polar
pub mod ByPolarity
pub mod Settled
pub mod Stored
pub mod inside
