pub mod ApartLemmas
pub mod CycleLemmas
pub mod GatherLemmas
pub mod HeldLemmas
pub mod RequiredLemmas
pub mod StayLemmas
