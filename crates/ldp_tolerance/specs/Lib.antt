pub mod Moves
pub mod Laws
pub mod Heights
pub mod Slack
