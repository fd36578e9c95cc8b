mod Cuts
mod Rows
mod Views
