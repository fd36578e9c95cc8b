-- Read in this order.
pub mod Sound
pub mod Placed
pub mod Shown
pub mod Plan
