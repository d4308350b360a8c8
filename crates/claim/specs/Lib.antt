pub mod Search
pub mod Turns
pub mod Claim
pub mod Agree
pub mod Falls
pub mod Examples
