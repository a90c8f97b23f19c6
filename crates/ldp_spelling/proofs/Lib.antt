pub mod Cuts
pub mod Zeros
pub mod Joins
pub mod Written
pub mod Pieces
pub mod Plain
pub mod Hashes
pub mod Texts
