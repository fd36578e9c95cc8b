-- Read in this order.
pub mod Words
pub mod Kinds
pub mod Items
pub mod Faults
pub mod Told
pub mod Jobs
pub mod Reading
pub mod Views
pub mod Grounds
pub mod Laws
pub mod Examples
