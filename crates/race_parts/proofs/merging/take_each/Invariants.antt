use Rattle.std.proofs.Common.{length}
use Rattle.race_parts.specs.Parts.{IsUndone}
use Rattle.race_parts.proofs.MergingLemmas.{IsTaking}
use Rattle.race_parts.proofs.merging.take_each.Given as goal

abbrev pub invariant-lines : goal.invariant-lines
invariant-lines l = IsTaking l.fn.parts l.parts l.file l.lines l.left l.place × IsUndone l.fn.parts l.parts l.added

abbrev pub decreases-lines : goal.decreases-lines
decreases-lines l = length l.left
