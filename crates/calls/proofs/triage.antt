mod AnswerLemmas
mod AppendLemmas
pub mod LeavingListedLemmas
pub mod LeavingMetLemmas
pub mod LeavingSplitLemmas
mod OneLemmas
pub mod SpotLemmas
