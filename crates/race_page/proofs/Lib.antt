pub mod MergedLemmas
pub mod PieceLemmas
pub mod RowLemmas
