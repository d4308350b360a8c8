pub mod Sets
pub mod Listed
pub mod Lists
pub mod Search
pub mod Laws
