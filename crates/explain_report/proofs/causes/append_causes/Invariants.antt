-- The chains so far, with those that wait, are those that waited first. As many as the list has may be printed.
use Rattle.std.proofs.Common.{◌≡◌, ◌++◌, List, ℕ}
use Rattle.explain_report.specs.Causes.{IsWaiting, waits}
use Rattle.explain_report.proofs.CauseLemmas.{GoesOn}
use Rattle.explain_report.proofs.causes.append_causes.Given as goal

abbrev pub invariant-loop-chain : goal.invariant-loop-chain
invariant-loop-chain l =
    ((text : List ℕ) × (l.out.items ≡ l.fn.out.items ++ text) × GoesOn l.analysis l.chains (waits l.fn.waiting) (waits l.waiting) text)
    × IsWaiting l.chains l._chain (waits l.waiting)
