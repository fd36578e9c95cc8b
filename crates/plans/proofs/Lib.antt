pub mod Finds
pub mod Extents
pub mod MaskChords
pub mod MaskPlans
pub mod TurnedPlans
