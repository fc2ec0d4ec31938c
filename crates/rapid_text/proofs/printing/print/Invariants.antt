-- The text so far is that of the events so far.
use Rattle.std.proofs.Common.{◌≡◌, take}
use Rattle.rapid_text.specs.Canonical.{events_text}
use Rattle.rapid_text.proofs.printing.print.Given as goal

abbrev pub invariant-loop-number : goal.invariant-loop-number
invariant-loop-number l = l.text.items ≡ events_text l.trace (take l.number l.trace.events) (take l.number l.trace.locations)
