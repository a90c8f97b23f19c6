pub mod Certificates
pub mod Forests
pub mod Walks
mod Entries
mod Sizes
pub mod Texts
