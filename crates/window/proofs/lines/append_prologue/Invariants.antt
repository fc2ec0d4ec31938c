use Rattle.std.proofs.Common.{◌≡◌, ◌++◌, [], take}
use Rattle.rapid_text.specs.Canonical.{events_text}
use Rattle.window.specs.Cuts.{with_name}
use Rattle.window.proofs.lines.append_prologue.Given as goal

abbrev pub invariant-loop-at : goal.invariant-loop-at
invariant-loop-at l = l.text.items ≡ l.fn.text.items ++ events_text (with_name l.trace l.own) (take l.at l.events) []
