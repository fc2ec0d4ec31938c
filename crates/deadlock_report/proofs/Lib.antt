mod CountLemmas
mod HoldLemmas
mod KnownLemmas
mod PieceLemmas
pub mod WaitLemmas
