mod Values
mod FirstUndefined
mod Tallies
mod Nodes
