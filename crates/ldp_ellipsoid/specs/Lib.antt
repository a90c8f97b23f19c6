pub mod Ellipsoid
