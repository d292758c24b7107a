pub mod StayOpen
pub mod LoadAfresh
pub mod Listings
pub mod Saying
