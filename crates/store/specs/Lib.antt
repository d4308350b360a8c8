pub mod Positions
pub mod Declines
pub mod Stores
pub mod Keepers
pub mod Laws
pub mod Histories
