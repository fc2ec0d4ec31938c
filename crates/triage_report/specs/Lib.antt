pub mod Appending
pub mod Folder
pub mod json
pub mod lines
pub mod sarif
