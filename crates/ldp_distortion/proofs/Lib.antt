mod Runs
mod Rows
mod Joints
mod Worsts
mod Usable
mod CellLoop
