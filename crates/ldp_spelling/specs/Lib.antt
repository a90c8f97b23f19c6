pub mod Pieces
pub mod Numbers
pub mod Hashes
pub mod Texts
