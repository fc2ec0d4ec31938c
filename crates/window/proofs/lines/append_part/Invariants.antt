use Rattle.std.proofs.Common.{◌≡◌, ◌++◌, ◌-◌, take, drop}
use Rattle.rapid_text.specs.Canonical.{events_text}
use Rattle.window.specs.Cuts.{with_name}
use Rattle.window.specs.Made.{part_of}
use Rattle.window.proofs.lines.append_part.Given as goal

abbrev pub invariant-loop-event : goal.invariant-loop-event
invariant-loop-event l =
    l.text.items ≡ l.fn.text.items ++ events_text (with_name l.trace l.own) (part_of l.trace.events l.from l.event) (take (l.event - l.from) (drop l.from l.trace.locations))
