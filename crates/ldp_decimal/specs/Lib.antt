pub mod Grammar
pub mod Spelling
pub mod Fraction
pub mod Reading
pub mod Writing
pub mod Scanned
