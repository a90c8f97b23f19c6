mod Writes
mod Taken
mod Upgraded
mod Designed
