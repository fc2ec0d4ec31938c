mod LineLemmas
mod ObjectLemmas
