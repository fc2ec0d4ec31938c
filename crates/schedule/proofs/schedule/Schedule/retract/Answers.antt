use Rattle.std.proofs.Common.{◌≡◌, ◌∷◌, [], ap, sym, subst, ◌∙◌}
use Rattle.schedule.specs.Reordering.{IsCorrectReordering}
use Rattle.schedule.specs.Tables.{AreTables}
use Rattle.schedule.proofs.SwapLemmas.{front_is}
use Rattle.schedule.proofs.schedule.Schedule.retract.Goals as goal

pub invariant_of-self-2 : goal.invariant_of-self-2
invariant_of-self-2 c =
    let T = c.self.inside.trace.value.events in
    let same_trace : c.self.inside.trace.value ≡ c.args.indexed.now = ap (λ v. v.trace) c.self.view_is ∙ c.requires in (
      c.self.invariant.0,
      c.self.invariant.1,
      front_is T c.pop.new.self.items (c.in-Some.event ∷ []) (subst (IsCorrectReordering T) c.in-Some.ensures.items c.self.invariant.2),
      subst (λ r. AreTables r.events c.pop.new.self.items c.forget.new.tables) (sym same_trace)
          (subst (λ l. AreTables c.args.indexed.now.events l c.forget.new.tables) c.deref.ensures.value c.forget.ensures),
    )
