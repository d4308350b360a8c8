pub mod Trees
pub mod Growth
pub mod Searches
pub mod Lines
