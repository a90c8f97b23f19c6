pub mod Cells
pub mod Range
pub mod Tests
pub mod Rows
pub mod Tallies
