use Rattle.std.proofs.Common.{List, Option}
use Rattle.witness_search.proofs.StepLemmas.{IsGreedyAnswer-run, run_begins, run_fits}
use Rattle.witness_search.proofs.searching.greedy.Goals as goal

pub returns-clause-answer : goal.returns-clause-answer
returns-clause-answer c = λ _. IsGreedyAnswer-run _ _ _ _ _ _ _ c.in_ok-found.ensures.run

pub returns-clause-begins : goal.returns-clause-begins
returns-clause-begins c = run_begins _ _ _ _ _ _ _ c.in_ok-found.ensures.run

pub returns-clause-budget : goal.returns-clause-budget
returns-clause-budget c = run_fits _ _ _ _ _ _ _ c.in_ok-found.ensures.run
