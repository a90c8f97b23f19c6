pub mod Bounded
pub mod Candidates
pub mod Explored
pub mod Search
pub mod Written
