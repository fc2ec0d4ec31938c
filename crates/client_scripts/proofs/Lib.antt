pub mod CallerLemmas
pub mod JointLemmas
pub mod KnownBytesLemmas
mod LoadingLemmas
pub mod PositionLemmas
pub mod ReplayLemmas
pub mod RunLemmas
pub mod SeatLemmas
