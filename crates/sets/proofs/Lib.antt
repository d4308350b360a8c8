pub mod Bits
pub mod Members
pub mod Places
pub mod Chains
pub mod Walking
pub mod Parts
pub mod Running
