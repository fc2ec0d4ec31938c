pub mod EntryLemmas
pub mod ItemLemmas
pub mod KnownLemmas
pub mod SpotLemmas
