-- Read in this order.
pub mod Lattice
pub mod Levels
pub mod Picks
pub mod Chain
pub mod Sets
pub mod Kinds
pub mod Words
pub mod Threshold
