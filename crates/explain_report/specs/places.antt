pub mod Accesses
pub mod Located
pub mod Names
pub mod Places
