-- Read in this order.
pub mod Words
pub mod Faults
pub mod Masks
pub mod Acts
pub mod Piles
pub mod Listings
pub mod Texts
pub mod Laws
pub mod Examples
