use Rattle.std.proofs.Common.{◌≡◌, ◌++◌, filter, drop}
use Rattle.schedule.specs.Shows.{does_show}
use Rattle.inverse_log.specs.Pairs.{pairs_of}
use Rattle.inverse_log.proofs.races.shown_pairs.Given as goal

abbrev pub invariant-loop-at : goal.invariant-loop-at
invariant-loop-at l =
    l.pairs ++ filter (λ p. does_show l.indexed.events l.schedule.events p.0 p.1) (pairs_of (drop l.at l.next.items)) ≡ filter (λ p. does_show l.indexed.events l.schedule.events p.0 p.1) (pairs_of l.next.items)
