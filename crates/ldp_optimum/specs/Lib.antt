pub mod Best
pub mod Forest
pub mod Laws
pub mod Trees
