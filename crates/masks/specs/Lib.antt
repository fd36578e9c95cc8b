-- Read in this order.
pub mod Points
pub mod Rows
pub mod Faults
pub mod Chords
pub mod Lengths
pub mod Cost
pub mod Shown
