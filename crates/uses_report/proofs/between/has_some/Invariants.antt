-- No flag is set so far.
use Rattle.std.proofs.Common.{◌≡◌, ℕ, ◌<◌, false}
use Rattle.std.specs.List.{slice_index_or}
use Rattle.uses_report.proofs.between.has_some.Given as goal

abbrev pub invariant-loop-at : goal.invariant-loop-at
invariant-loop-at l = (x : ℕ) → x < l.at → slice_index_or l.flags x false ≡ false
