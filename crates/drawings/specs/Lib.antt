-- Read in this order.
pub mod Signs
pub mod Readings
pub mod Drawn
pub mod Told
pub mod Pictures
