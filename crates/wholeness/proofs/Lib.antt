pub mod LineLemmas
pub mod LossLemmas
