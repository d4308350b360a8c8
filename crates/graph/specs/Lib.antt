pub mod Levels
pub mod Theorems
pub mod Turning
pub mod Tables
pub mod Growths
pub mod Graphs
pub mod Questions
pub mod Valuation
