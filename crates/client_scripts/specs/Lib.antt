pub mod FaultTexts
pub mod Joint
pub mod Loading
pub mod Messages
pub mod Replay
pub mod Seats
pub mod Steps
pub mod Traces
