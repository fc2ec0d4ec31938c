pub mod Between
pub mod Texts
pub mod Totals
