use Rattle.std.proofs.Common.{ℕ, List, sym, subst}
use Rattle.window.specs.Heads.{past_of}
use Rattle.window.specs.Streams.{IsFront}
use Rattle.window.proofs.FrontLemmas.{front_begins}
use Rattle.window.proofs.front.Front.begin.Goals as goal

pub invariant_of-result : goal.invariant_of-result
invariant_of-result c =
    let known = c.begin.result in
    let is = c.begin.ensures in
    subst (λ (t : List ℕ). IsFront t (past_of known) known.holds 0 0) (sym c.empty.ensures) (front_begins (past_of known) known.holds is.forked is.seen is.joined is.held is.holds)
