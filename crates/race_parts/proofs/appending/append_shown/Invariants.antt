use Rattle.std.proofs.Common.{◌≡◌, ◌++◌, take}
use Rattle.race_parts.specs.Texts.{shown}
use Rattle.race_parts.proofs.appending.append_shown.Given as goal

abbrev pub invariant-loop-byte : goal.invariant-loop-byte
invariant-loop-byte l = l.out.items ≡ l.fn.out.items ++ shown (take l.byte-index l.bytes)
