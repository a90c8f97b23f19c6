pub mod DesignRuns
pub mod Kept
pub mod Kinds
pub mod Laws
pub mod Plain
pub mod Sweeps
pub mod Summary
