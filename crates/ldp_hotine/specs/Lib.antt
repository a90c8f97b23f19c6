pub mod Hotine
