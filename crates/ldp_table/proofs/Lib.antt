pub mod Counted
pub mod Bounds
pub mod Lined
pub mod Measured
pub mod Ascii
pub mod Printed
