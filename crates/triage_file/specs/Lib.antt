pub mod Entries
pub mod Files
pub mod Matching
pub mod Spots
pub mod Writing
