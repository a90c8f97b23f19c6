pub mod Lists
pub mod Singles
pub mod Valid
pub mod Documents
pub mod Fronts
