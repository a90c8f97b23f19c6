mod Answered
mod Counts
mod Faults
mod Walks
mod Nodes
mod Pairs
mod Covered
mod Verdicts
