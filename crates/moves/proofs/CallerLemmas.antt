-- Lemmas for the crates above.
-- equality of names, as a test and as a fact
pub use Rattle.moves.proofs.NameLemmas.{eq-bytes, bytes-true, bytes-false, bytes_tells}
-- what a name's row is after a change, and that two listings with the same look-ups are equal
pub use Rattle.moves.proofs.RowLemmas.{with_row-same, with_row-other, listing-with_row, rows_same}
-- the rows are listed with births below the next one, after each command
pub use Rattle.moves.proofs.ChainLemmas.{IsPlain, plain_more, plain_step, plain_end, leads_split, leads_join}
-- a chain of commands and the fold tell the same; another fact at each command; a longer board
pub use Rattle.moves.proofs.FoldLemmas.{Nothing, fold_from_leads, leads_from_fold, leads_other, leads_longer, leads_once, made_longer, get_longer, leads_from_batch}
-- one more command; a command that no later one touches can be taken back
pub use Rattle.moves.proofs.UndoLemmas.{plain_nil, rises_split, leads_push, IsUndone, undone, row_updated}
-- what an applied command, a refused one and a step back leave
pub use Rattle.moves.proofs.TurnLemmas.{applied_parts, refused_same, listing-applied, listing-turned}
-- commands lead from correct reorderings of the trace to correct reorderings of it
pub use Rattle.moves.proofs.KeepLemmas.{leads_kept, AreReorderings-nil, IsOfTrace-kept}
-- batches: all were applied; the next one is refused; births stay below the next; all stays of the trace; taken back at once
pub use Rattle.moves.proofs.BatchLemmas.{runs_all, runs_plain, runs_of_trace, runs_traced, runs_below, runs_back, runs_leads, below_as, below_more}
-- commands that touch only some names do the same on other rows that agree there
pub use Rattle.moves.proofs.BatchLemmas.{IsCarried, carried}
-- several commands that no later one touches can be taken back
pub use Rattle.moves.proofs.ManyLemmas.{StepsBack, Clear, many_undone, rises_without}
-- what a step puts in; rows after a step, and after the steps of a batch
pub use Rattle.moves.proofs.BackLemmas.{of_trace-turned, below-turned, step_traced, step_below, traced_made}
pub use Rattle.moves.proofs.TurnAllLemmas.{of_trace-all, below-all, turn_can, turn_rest, turn_done}
