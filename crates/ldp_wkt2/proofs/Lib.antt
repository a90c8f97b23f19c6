pub mod Fronts
pub mod Allowed
pub mod Designs
pub mod Runs
pub mod Laws
