pub mod CallerLemmas
pub mod CandidateLaws
pub mod LineLemmas
pub mod PieceLemmas
pub mod TestLemmas
