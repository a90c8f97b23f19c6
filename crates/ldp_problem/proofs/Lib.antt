pub mod Cells
pub mod Facts
pub mod Pairs
