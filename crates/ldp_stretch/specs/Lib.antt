pub mod Hulls
pub mod Spans
pub mod Twins
