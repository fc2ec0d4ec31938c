mod BetweenLemmas
mod FewLemmas
mod RowLemmas
mod SumLemmas
