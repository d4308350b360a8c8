pub mod Paths
pub mod Frames
pub mod Endings
pub mod Works
