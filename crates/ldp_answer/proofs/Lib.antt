mod Lines
mod Lengths
pub mod Upgrades
mod Found
mod Designs
mod SampleTexts
