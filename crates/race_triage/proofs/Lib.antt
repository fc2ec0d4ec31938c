mod BetweenLemmas
mod BothLemmas
mod ChosenLemmas
mod CountLemmas
mod FilterLemmas
pub mod HeldLemmas
mod KnownLemmas
mod ListLemmas
pub mod NumberLemmas
mod OnceLemmas
mod BudgetLemmas
mod OneLemmas
mod OpenLemmas
mod OutcomeLemmas
mod PieceLemmas
mod PlaceLemmas
mod RowLemmas
pub mod SameLemmas
mod SettledLemmas
pub mod VerdictLemmas
mod WorkerLemmas
mod TotalLemmas
mod TurnedLemmas
