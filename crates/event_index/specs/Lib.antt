pub mod Events
pub mod Layout
pub mod Least
pub mod Lookups
pub mod Open
pub mod Relations
pub mod Tables
