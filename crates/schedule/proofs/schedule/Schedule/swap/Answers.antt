use Rattle.std.proofs.Common.{◌≡◌, ◌+◌, ◌<◌, length, ap, sym, subst, arith, rules}
use Rattle.std.specs.List.{swap}
use Rattle.schedule.specs.Reordering.{IsCorrectReordering}
use Rattle.schedule.specs.Scheduled.{Scheduled}
use Rattle.schedule.specs.Tables.{AreTables}
use Rattle.schedule.specs.Swaps.{exchanged, MayExchange}
use Rattle.schedule.specs.declared.tables.Tables.{Tables}
use Rattle.schedule.proofs.CallerLemmas.{IsCorrectReordering-exchanged}
use Rattle.schedule.proofs.SwapTables.{AreTables-exchanged}
use Rattle.schedule.proofs.schedule.Schedule.swap.Goals as goal

pub swap-requires-clause-i_in_bounds : goal.swap-requires-clause-i_in_bounds
swap-requires-clause-i_in_bounds c =
    let T = c.args.self.now.trace.events in
    let P = c.args.self.now.events in
    let may : MayExchange T P c.args.at = c.exchangeable.ensures.exact.0 (search rules) in
    let within : c.args.at + 1 < length P = may.within in
    search (rules, arith, within)

pub swap-requires-clause-j_in_bounds : goal.swap-requires-clause-j_in_bounds
swap-requires-clause-j_in_bounds c =
    let T = c.args.self.now.trace.events in
    let P = c.args.self.now.events in
    let may : MayExchange T P c.args.at = c.exchangeable.ensures.exact.0 (search rules) in
    let within : c.args.at + 1 < length P = may.within in
    search (rules, arith, within)

pub swap-requires-2-clause-i_in_bounds : goal.swap-requires-2-clause-i_in_bounds
swap-requires-2-clause-i_in_bounds c =
    let T = c.args.self.now.trace.events in
    let P = c.args.self.now.events in
    let may : MayExchange T P c.args.at = c.exchangeable.ensures.exact.0 (search rules) in
    let within : c.args.at + 1 < length P = may.within in
    let long : length c.self.inside.tables.value.shadows.items ≡ length c.self.inside.events.items = c.self.invariant.3.shadows.len in
    search (rules, arith, within, long)

pub swap-requires-2-clause-j_in_bounds : goal.swap-requires-2-clause-j_in_bounds
swap-requires-2-clause-j_in_bounds c =
    let T = c.args.self.now.trace.events in
    let P = c.args.self.now.events in
    let may : MayExchange T P c.args.at = c.exchangeable.ensures.exact.0 (search rules) in
    let within : c.args.at + 1 < length P = may.within in
    let long : length c.self.inside.tables.value.shadows.items ≡ length c.self.inside.events.items = c.self.invariant.3.shadows.len in
    search (rules, arith, within, long)

pub invariant_of-self : goal.invariant_of-self
invariant_of-self c =
    let T = c.self.inside.trace.value.events in
    let P = c.self.inside.events.items in
    let may : MayExchange T P c.args.at =
    subst (λ (s : Scheduled). MayExchange s.trace.events s.events c.args.at) (sym c.self.view_is) (c.exchangeable.ensures.exact.0 (search rules)) in
    let other : c.swap.new.self.items ≡ exchanged P c.args.at = search rules in
    let moved : c.swap-2.new.self.items ≡ swap c.self.inside.tables.value.shadows.items c.args.at (c.args.at + 1) = search (rules, arith) in
    let same : c.deref_mut.result.now ≡ c.self.inside.tables.value = search rules in
    let after : Tables =
    record { counts = c.deref_mut.result.now.counts; latest = c.deref_mut.result.now.latest; shadows = c.swap-2.new.self } in (
      c.self.invariant.0,
      c.self.invariant.1,
      subst (IsCorrectReordering T) (sym other) (IsCorrectReordering-exchanged T P c.args.at may c.self.invariant.2),
      subst (λ l. AreTables T l after) (sym other)
          (AreTables-exchanged T P c.args.at may c.self.inside.tables.value after c.self.invariant.3 (ap (λ t. t.counts) same) (ap (λ t. t.latest) same) moved),
    )
