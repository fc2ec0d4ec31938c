use Rattle.std.proofs.Common.{◌≡◌, [], ◌∷◌, ◌++◌, None, ap, sym, subst, ◌∙◌, rules}
use Rattle.trace_rules.specs.Rules.{IsDisciplined}
use Rattle.schedule.specs.Refusals.{refusal_of}
use Rattle.schedule.specs.Reordering.{IsCorrectReordering, IsEnabled}
use Rattle.schedule.specs.Tables.{AreTables}
use Rattle.schedule.proofs.EnabledLemmas.{IsEnabled-none}
use Rattle.schedule.proofs.InsideLemmas.{IsCorrectReordering-seen}
use Rattle.schedule.proofs.schedule.Schedule.extend.Goals as goal

pub note-requires-clause-enabled : goal.note-requires-clause-enabled
note-requires-clause-enabled c =
    let T = c.args.indexed.now.events in
    let same : c.self.inside.trace.value ≡ c.args.indexed.now = ap (λ v. v.trace) c.self.view_is ∙ c.requires in
    let none : refusal_of T c.deref-3.result.now c.args.event ≡ None =
    subst (λ l. refusal_of T l c.args.event ≡ None) (c.deref-2.ensures.value ∙ sym c.deref-3.ensures.value) (sym c.in_default.ensures) in
    IsEnabled-none T c.deref-3.result.now c.args.event (subst (λ r. IsDisciplined r.events) same c.self.invariant.1)
    (IsCorrectReordering-seen c.self.inside.trace.value c.args.indexed.now c.self.inside.events.items c.deref-3.result.now same c.deref-3.ensures.value c.self.invariant.2) none

pub invariant_of-self-in-Ok-push : goal.invariant_of-self-in-Ok-push
invariant_of-self-in-Ok-push c =
    let T = c.self.inside.trace.value.events in
    let P = c.self.inside.events.items in
    let same_trace : c.self.inside.trace.value ≡ c.args.indexed.now = ap (λ v. v.trace) c.self.view_is ∙ c.requires in
    let none : refusal_of T P c.args.event ≡ None = cc in
    let is : IsEnabled T P c.args.event = IsEnabled-none T P c.args.event c.self.invariant.1 c.self.invariant.2 none in
    let pushed : c.push.new.self.items ≡ P ++ c.args.event ∷ [] = c.in-Ok-push.ensures.items in
    let tables : AreTables T (P ++ c.args.event ∷ []) c.note.new.tables =
    subst (λ l. AreTables T (l ++ c.args.event ∷ []) c.note.new.tables) c.deref-3.ensures.value
    (subst (λ r. AreTables r.events (c.deref-3.result.now ++ c.args.event ∷ []) c.note.new.tables) (sym same_trace) c.in-Ok.ensures.ok) in (
      c.self.invariant.0,
      c.self.invariant.1,
      subst (IsCorrectReordering T) (sym pushed) is,
      subst (λ l. AreTables T l c.note.new.tables) (sym pushed) tables,
    )

pub forget-requires-clause-enabled : goal.forget-requires-clause-enabled
forget-requires-clause-enabled c =
    let T = c.args.indexed.now.events in
    let P = c.deref-in_default-push.result.now in
    let none : refusal_of T P c.args.event ≡ None = search rules in
    let is : IsCorrectReordering T P = search rules in
    let disciplined : IsDisciplined T = search rules in
    IsEnabled-none T P c.args.event disciplined is none

pub returns-clause-enabled : goal.returns-clause-enabled
returns-clause-enabled c =
    let T = c.args.self.now.trace.events in
    let P = c.args.self.now.events in
    let none : refusal_of T P c.args.event ≡ None = search rules in
    let is : IsCorrectReordering T P = search rules in
    let disciplined : IsDisciplined T = search rules in
    IsEnabled-none T P c.args.event disciplined is none
