use Rattle.std.specs.Prelude.{◌≡◌, take}
use Rattle.outside.specs.headline.History.{Follows}
use Rattle.outside.proofs.headline.driving.make_all.Given as goal

-- the calls so far were made
abbrev pub invariant-loop-one : goal.invariant-loop-one
invariant-loop-one l = (l.bench.trace ≡ l.fn.bench.trace) × Follows l.fn.bench.trace l.fn.bench.log (take l.one-index l.asked) l.bench.log
