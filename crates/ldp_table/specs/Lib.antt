pub mod Rows
pub mod Bands
pub mod Texts
pub mod Objects
