pub mod LambertTwo
pub mod Laws
