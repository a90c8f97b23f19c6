pub mod Mark
pub mod Tokens
pub mod Seen
