pub mod Digits
pub mod Rounding
pub mod Limited
pub mod Numerals
pub mod Spelled
pub mod Spellings
