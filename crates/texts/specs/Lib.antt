-- Read in this order.
pub mod Inputs
pub mod Lines
pub mod Settings
pub mod Masks
pub mod Parts
pub mod Told
pub mod Sheets
pub mod Views
pub mod Faults
