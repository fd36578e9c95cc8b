pub mod Origins
pub mod Blanks
