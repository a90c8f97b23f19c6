mod Products
mod Walks
mod Rings
mod Sides
mod Outside
pub mod Within
mod TokensLeft
mod Phrases
mod Resumed
mod Agreement
mod Numbers
