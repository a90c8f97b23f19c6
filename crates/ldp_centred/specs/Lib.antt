pub mod Lowest
pub mod Kept
pub mod Laws
pub mod Soundness
