pub mod Floors
pub mod Products
pub mod Quotients
pub mod Roots
pub mod Listed
pub mod Ring
