pub mod CallerLemmas
pub mod Counts
pub mod HoldLemmas
pub mod LifeLemmas
pub mod TableLemmas
