pub mod headline
pub mod triage
