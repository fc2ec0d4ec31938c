use Rattle.std.proofs.Common.{◌∷◌, [], Some, sym, subst}
use Rattle.std.proofs.KnownBytes.{Appends-trans}
use Rattle.workspace_lock.specs.Runs.{Passes, Hears}
use Rattle.workspace_lock.proofs.PlaceLemmas.{may_go_back}
use Rattle.workspace_lock.proofs.seat.Seat.run_gated.Goals as goal
use Rattle.workspace_lock.proofs.seat.Seat.run_gated.Goals.{in-Ok, in-Err}

pub give_back-requires-clause-bench : goal.give_back-requires-clause-bench
give_back-requires-clause-bench g c = let i = c.self.invariant.1 in may_go_back c.self.inside.place.me c.take_bench-bench.new.place.me _ _ _ _ _ c.take_bench-bench.ensures.2 i.2 i.3 i.4 c.call-answered.ensures.trace c.call-answered.ensures.call

pub returns-clause-gate : goal.returns-clause-gate
returns-clause-gate g c =
    let old = g.G.Gate.passed c.args.gate.now in
    let new = g.G.Gate.passed c.pass_answered.new.gate in
    let both = Appends-trans old (g.G.Gate.passed c.pass.new.self) new (1 ∷ []) (2 ∷ []) c.pass.ensures.passed c.pass_answered.ensures.passed in
    elim c.match-answered.branch [
      | in-Ok w ↦ subst (λ r. Passes r old new) (sym w.result-is) both
      | in-Err w ↦ subst (λ r. Passes r old new) (sym w.result-is) both
    ]

pub returns-clause-heard : goal.returns-clause-heard
returns-clause-heard g c =
    let heard = g.G.Gate.heard in
    let old = c.args.gate.now in
    let held = c.pass.new.self in
    let new = c.pass_answered.new.gate in
    let first = c.pass.ensures.heard in
    let second = c.pass_answered.ensures.heard in
    elim c.match-answered.branch [
      | in-Ok w ↦ subst (λ r. Hears heard r old new) (sym w.result-is) (held, first, subst (λ a. heard held new 2 (Some a)) w.in-Ok.is second)
      | in-Err w ↦ subst (λ r. Hears heard r old new) (sym w.result-is) (held, first, subst (λ a. heard held new 2 (Some a)) w.in-Err.is second)
    ]
