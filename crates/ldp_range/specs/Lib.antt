pub mod Choice
pub mod Range
pub mod Twin
pub mod Related
pub mod Laws
