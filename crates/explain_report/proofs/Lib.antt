pub mod AccessLemmas
pub mod CauseLemmas
mod ContradictedLemmas
pub mod HeldLemmas
pub mod IndentLemmas
pub mod LineLemmas
pub mod PieceLemmas
pub mod RacedLemmas
pub mod RunLemmas
pub mod SectionLemmas
pub mod StepLemmas
