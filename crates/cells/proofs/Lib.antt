pub mod Chains
pub mod Halves
pub mod Bytes
pub mod Echoes
pub mod Thresholds
pub mod WordTrips
