-- Read in this order.
pub mod Side
pub mod Line
pub mod Row
pub mod Sweep
pub mod Calls
pub mod Lists
pub mod Find
