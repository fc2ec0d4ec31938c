use Rattle.std.proofs.Common.{ap, subst, ◌∙◌}
use Rattle.std.proofs.lemmas.Bool.Decides.{not_from_Decides, same_from_decides}
use Rattle.schedule.specs.Reordering.{IsCorrectReordering}
use Rattle.schedule.specs.Scheduled.{Scheduled}
use Rattle.schedule.specs.Shows.{does_show}
use Rattle.schedule.proofs.InsideLemmas.{AreTables-seen, IsCorrectReordering-seen}
use Rattle.schedule.proofs.ShowLemmas.{Decides-apart, Decides-does_show, Decides-shown, Decides-unready, IsReady-seen, does_show-apart, past_first, past_second}
use Rattle.schedule.proofs.schedule.Schedule.shows.Goals as goal

pub returns-then-first-len-clause-shows : goal.returns-then-first-len-clause-shows
returns-then-first-len-clause-shows c =
    Decides-apart c.args.self.now.trace c.args.indexed.now c.args.self.now.events c.requires c.args.first c.args.second
    (past_first c.args.indexed.now.events c.args.first c.args.second c.len.result c.len.ensures.len c.if-first-len.true)

pub returns-then-first-len-clause-test : goal.returns-then-first-len-clause-test
returns-then-first-len-clause-test c =
    does_show-apart c.args.self.now.trace c.args.indexed.now c.args.self.now.events c.requires c.args.first c.args.second
    (past_first c.args.indexed.now.events c.args.first c.args.second c.len.result c.len.ensures.len c.if-first-len.true)

pub returns-then-second-len-clause-shows : goal.returns-then-second-len-clause-shows
returns-then-second-len-clause-shows c =
    Decides-apart c.args.self.now.trace c.args.indexed.now c.args.self.now.events c.requires c.args.first c.args.second
    (past_second c.args.indexed.now.events c.args.first c.args.second c.len-2.result c.len-2.ensures.len c.if-second-len.true)

pub returns-then-second-len-clause-test : goal.returns-then-second-len-clause-test
returns-then-second-len-clause-test c =
    does_show-apart c.args.self.now.trace c.args.indexed.now c.args.self.now.events c.requires c.args.first c.args.second
    (past_second c.args.indexed.now.events c.args.first c.args.second c.len-2.result c.len-2.ensures.len c.if-second-len.true)

pub returns-then-not-conflict-clause-shows : goal.returns-then-not-conflict-clause-shows
returns-then-not-conflict-clause-shows c =
    Decides-apart c.args.self.now.trace c.args.indexed.now c.args.self.now.events c.requires c.args.first c.args.second
    (not_from_Decides c.conflict.result c.conflict.ensures.conflict c.if-not-conflict.true)

pub returns-then-not-conflict-clause-test : goal.returns-then-not-conflict-clause-test
returns-then-not-conflict-clause-test c =
    does_show-apart c.args.self.now.trace c.args.indexed.now c.args.self.now.events c.requires c.args.first c.args.second
    (not_from_Decides c.conflict.result c.conflict.ensures.conflict c.if-not-conflict.true)

pub is_ready-requires-clause-tables : goal.is_ready-requires-clause-tables
is_ready-requires-clause-tables c =
    AreTables-seen c.self.inside.trace.value c.args.indexed.now c.self.inside.events.items c.deref-2.result.now (ap (λ v. v.trace) c.self.view_is ∙ c.requires) c.deref-2.ensures.value
    c.self.inside.tables.value c.deref.result.now c.deref.ensures c.self.invariant.3

pub is_ready-requires-clause-reordering : goal.is_ready-requires-clause-reordering
is_ready-requires-clause-reordering c =
    IsCorrectReordering-seen c.self.inside.trace.value c.args.indexed.now c.self.inside.events.items c.deref-2.result.now (ap (λ v. v.trace) c.self.view_is ∙ c.requires) c.deref-2.ensures.value
    c.self.invariant.2

pub is_ready-requires-then-is_ready-clause-tables : goal.is_ready-requires-then-is_ready-clause-tables
is_ready-requires-then-is_ready-clause-tables c =
    AreTables-seen c.self.inside.trace.value c.args.indexed.now c.self.inside.events.items c.deref-then-is_ready-2.result.now (ap (λ v. v.trace) c.self.view_is ∙ c.requires) c.deref-then-is_ready-2.ensures.value
    c.self.inside.tables.value c.deref-then-is_ready.result.now c.deref-then-is_ready.ensures c.self.invariant.3

pub is_ready-requires-then-is_ready-clause-reordering : goal.is_ready-requires-then-is_ready-clause-reordering
is_ready-requires-then-is_ready-clause-reordering c =
    IsCorrectReordering-seen c.self.inside.trace.value c.args.indexed.now c.self.inside.events.items c.deref-then-is_ready-2.result.now (ap (λ v. v.trace) c.self.view_is ∙ c.requires)
    c.deref-then-is_ready-2.ensures.value c.self.invariant.2

pub returns-then-is_ready-clause-shows : goal.returns-then-is_ready-clause-shows
returns-then-is_ready-clause-shows c =
    Decides-shown c.args.self.now.trace c.args.indexed.now c.args.self.now.events c.deref-then-is_ready-2.result.now c.requires (c.deref-then-is_ready-2.ensures.value ∙ ap (λ v. v.events) c.self.view_is) c.args.first c.args.second
    (c.conflict.ensures.conflict.0 c.if-not-conflict.false)
    (IsReady-seen c.args.self.now.trace c.args.indexed.now c.args.self.now.events c.deref-2.result.now c.requires (c.deref-2.ensures.value ∙ ap (λ v. v.events) c.self.view_is) c.args.first c.args.second
    c.args.first (c.is_ready.ensures.ready.0 c.if-is_ready.true))
    c.is_ready-then-is_ready.result c.is_ready-then-is_ready.ensures.ready

pub returns-then-is_ready-clause-test : goal.returns-then-is_ready-clause-test
returns-then-is_ready-clause-test c =
    let is : IsCorrectReordering c.args.self.now.trace.events c.args.self.now.events = subst (λ (v : Scheduled). IsCorrectReordering v.trace.events v.events) c.self.view_is c.self.invariant.2 in
    same_from_decides c.is_ready-then-is_ready.result (does_show c.args.self.now.trace.events c.args.self.now.events c.args.first c.args.second)
    (returns-then-is_ready-clause-shows c)
    (Decides-does_show c.args.self.now.trace.events c.args.self.now.events c.args.first c.args.second is)

pub returns-else-is_ready-clause-shows : goal.returns-else-is_ready-clause-shows
returns-else-is_ready-clause-shows c =
    Decides-unready c.args.self.now.trace c.args.indexed.now c.args.self.now.events c.deref-2.result.now c.requires (c.deref-2.ensures.value ∙ ap (λ v. v.events) c.self.view_is) c.args.first c.args.second
    c.is_ready.result c.if-is_ready.false c.is_ready.ensures.ready

pub returns-else-is_ready-clause-test : goal.returns-else-is_ready-clause-test
returns-else-is_ready-clause-test c =
    let is : IsCorrectReordering c.args.self.now.trace.events c.args.self.now.events = subst (λ (v : Scheduled). IsCorrectReordering v.trace.events v.events) c.self.view_is c.self.invariant.2 in
    same_from_decides c.is_ready.result (does_show c.args.self.now.trace.events c.args.self.now.events c.args.first c.args.second)
    (returns-else-is_ready-clause-shows c)
    (Decides-does_show c.args.self.now.trace.events c.args.self.now.events c.args.first c.args.second is)
