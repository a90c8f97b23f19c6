mod Cells
mod Families
mod Kepts
mod Loops
mod Runs
mod Sweeps
mod Tallies
mod Told
pub mod Carriers
pub mod Sound
