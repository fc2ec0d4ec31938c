pub mod CallLemmas
mod LineLemmas
