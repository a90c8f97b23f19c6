pub mod Profile
pub mod Values
pub mod Lines
pub mod Reading
pub mod Fronts
