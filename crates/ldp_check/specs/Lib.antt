pub mod Reports
pub mod Inputs
pub mod Printed
pub mod Entries
pub mod Stacks
pub mod Verdicts
pub mod Walks
