pub mod Listed
pub mod Members
pub mod Order
pub mod Bests
pub mod Trees
pub mod Forests
pub mod Sizes
