pub mod Determined
pub mod Listings
pub mod Numbers
pub mod Progress
pub mod Returned
pub mod Spelt
pub mod Told
