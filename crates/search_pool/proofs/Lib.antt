pub mod PassLemmas
pub mod PendingLemmas
