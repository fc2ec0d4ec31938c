pub mod Gathering
pub mod Held
pub mod Laws
pub mod Required
pub mod Waits
