use Rattle.std.proofs.Common.{◌≡◌, filter, take}
use Rattle.std.specs.List.{slice_get}
use Rattle.race_groups.specs.Classes.{is_writing}
use Rattle.race_groups.proofs.writers.writing.Given as goal

abbrev pub invariant-loop-member : goal.invariant-loop-member
invariant-loop-member l = l.writers.items ≡ filter (λ c. is_writing (slice_get l.infos c)) (take l.member-index l.members)
