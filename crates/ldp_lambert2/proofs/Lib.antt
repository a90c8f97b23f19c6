pub mod Groups
pub mod Joint
pub mod Parallel
pub mod Quotients
pub mod Values
