pub mod FileRole
pub mod HeightFault
pub mod ZoneFault
pub mod GridFault
pub mod JobFault
pub mod CellsFault
pub mod Refusal
