-- Read in this order.
pub mod Performed
pub mod Runs
pub mod Pairs
pub mod Mid
