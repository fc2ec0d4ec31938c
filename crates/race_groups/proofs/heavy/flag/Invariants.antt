use Rattle.std.proofs.Common.{◌≡◌, length}
use Rattle.race_groups.proofs.heavy.flag.Given as goal

abbrev pub invariant-loop-event : goal.invariant-loop-event
invariant-loop-event l = length l.flags ≡ length l.basis.classes.now.infos.items

abbrev pub invariant-loop-class : goal.invariant-loop-class
invariant-loop-class l = length l.flags ≡ length l.basis.classes.now.infos.items
