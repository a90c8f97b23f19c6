pub mod Cut
pub mod Tally
pub mod Peaks
pub mod Grown
