mod Ways
mod Steps
mod Projections
mod Distortions
mod Worsts
mod Slacks
