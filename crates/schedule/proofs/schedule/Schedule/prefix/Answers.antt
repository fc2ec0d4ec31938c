use Rattle.std.proofs.Common.{◌≡◌, ◌≤◌, length, take, sym, subst, rules}
use Rattle.rapid_text.specs.Recording.{IsWellFormed}
use Rattle.trace_rules.specs.Rules.{IsDisciplined}
use Rattle.schedule.specs.Reordering.{IsCorrectReordering}
use Rattle.schedule.specs.Tables.{AreTables}
use Rattle.schedule.proofs.CallerLemmas.{IsCorrectReordering-take}
use Rattle.schedule.proofs.schedule.Schedule.prefix.Goals as goal

pub invariant_of-result : goal.invariant_of-result
invariant_of-result c =
    let T = c.self.inside.trace.value.events in
    let P = c.self.inside.events.items in
    let same : c.self.inside.trace.value ≡ c.of.result.value = search rules in
    let front : c.in-Ok.events.items ≡ take c.args.len P = search rules in
    let listed : c.in-Ok.events.items ≡ take c.args.len c.args.self.now.events = search rules in
    let fits : c.args.len ≤ length P = search rules in
    let is : IsCorrectReordering T c.in-Ok.events.items =
    subst (IsCorrectReordering T) (sym front) (IsCorrectReordering-take T P c.args.len fits c.self.invariant.2) in (
      subst IsWellFormed same c.self.invariant.0,
      subst (λ r. IsDisciplined r.events) same c.self.invariant.1,
      subst (λ r. IsCorrectReordering r.events c.in-Ok.events.items) same is,
      subst (λ r. AreTables r.events c.in-Ok.events.items c.in-Ok-front_tables.tables.value) (sym c.of.ensures)
          (subst (λ l. AreTables c.args.indexed.now.events l c.in-Ok-front_tables.tables.value) (sym listed) c.in-Ok-front_tables.ensures),
    )
