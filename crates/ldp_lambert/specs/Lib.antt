pub mod Lambert
