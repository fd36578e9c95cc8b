pub mod Equal
mod Laid
mod WholeRows
mod Parts
mod Turns
