pub mod AnswerLemmas
pub mod NamedLemmas
pub mod UsesLemmas
