pub mod DigitLemmas
pub mod HashLemmas
pub mod JoinLemmas
