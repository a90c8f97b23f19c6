pub mod TransverseMercator
