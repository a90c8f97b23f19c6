pub mod Columns
pub mod Numbers
pub mod Tables
pub mod Axes
pub mod Families
pub mod Facts
pub mod Reading
