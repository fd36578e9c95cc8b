-- Read in this order.
pub mod Bounds
pub mod Filters
pub mod Order
pub mod Mid
pub mod Find
pub mod Refusals
pub mod Calls
pub mod Laws
pub mod Standing
pub mod FourSheets
pub mod Matching
pub mod RowSheets
pub mod Edge
pub mod Examples
