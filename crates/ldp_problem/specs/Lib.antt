pub mod Problem
pub mod Pairs
pub mod Costs
pub mod Laws
