pub mod Keeping
pub mod Counting
pub mod Histories
