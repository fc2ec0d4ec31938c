use Rattle.std.proofs.Common.{◌≡◌, map, take, get_or}
use Rattle.race_parts.specs.declared.presorting.Quick.{Quick}
use Rattle.race_parts.proofs.presorting.in_order.Given as goal

abbrev pub invariant-loop-key : goal.invariant-loop-key
invariant-loop-key l = l.made.items ≡ map (λ (k : Quick). get_or l.cells k.number l.other) (take l.key-index l.keys.items)
