pub mod Cells
pub mod Meets
pub mod Gathers
pub mod Adjoint
pub mod Galois
pub mod Sheets
pub mod HitLists
pub mod Words
pub mod Runs
mod Standings
pub mod Mids
pub mod Maps
pub mod GrayRows
pub mod MaskCosts
pub mod FlagRows
pub mod Edges
pub mod Hits
