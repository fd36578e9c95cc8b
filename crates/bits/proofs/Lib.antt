pub mod SingleBits
