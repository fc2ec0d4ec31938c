use Rattle.std.proofs.Common.{◌≡◌, ◌++◌, filter, map, take}
use Rattle.schedule.specs.Shows.{does_show}
use Rattle.inverse_log.proofs.races.add_pairs.Given as goal

abbrev pub invariant-loop-second : goal.invariant-loop-second
invariant-loop-second l = l.pairs ≡ l.fn.pairs ++ filter (λ p. does_show l.indexed.events l.schedule.events p.0 p.1) (map (λ y. (l.first, y)) (take l.second-index l.later))
