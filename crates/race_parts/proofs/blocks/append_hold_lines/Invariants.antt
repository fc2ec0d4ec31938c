use Rattle.std.proofs.Common.{◌≡◌, ◌++◌, take}
use Rattle.race_parts.specs.Texts.{hold_lines}
use Rattle.race_parts.proofs.blocks.append_hold_lines.Given as goal

abbrev pub invariant-loop-lock : goal.invariant-loop-lock
invariant-loop-lock l = l.out.items ≡ l.fn.out.items ++ hold_lines (take l.lock-index l.locks)
