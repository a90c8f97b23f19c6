pub mod Inputs
pub mod Laws
pub mod Distortion
pub mod Worst
pub mod Rows
pub mod Prepared
