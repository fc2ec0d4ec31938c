pub mod Desks
pub mod Limits
pub mod Outcomes
pub mod Passes
pub mod Pools
