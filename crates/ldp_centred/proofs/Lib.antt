pub mod Casts
pub mod Centring
pub mod Told
pub mod Parts
mod Ranges
mod Points
mod Rounded
mod Corners
mod Meeting
mod Arithmetic
mod Operations
mod Divided
mod Sound
mod Least
