pub mod InputLemmas
pub mod JobLemmas
pub mod MergeLemmas
pub mod SearchLemmas
pub mod SendLemmas
pub mod ThreadsLemmas
pub mod ToldLemmas
