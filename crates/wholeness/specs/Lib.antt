pub mod Losses
pub mod Marks
pub mod Saying
pub mod Status
