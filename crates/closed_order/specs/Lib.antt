pub mod Closed
pub mod Known
pub mod Laws
pub mod Steps
