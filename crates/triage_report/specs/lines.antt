pub mod Accesses
pub mod Lines
pub mod Reasons
