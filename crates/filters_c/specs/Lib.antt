-- Read in this order.
pub mod Told
