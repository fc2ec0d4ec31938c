-- Each turn adds one event, or ends the run.
use Rattle.std.proofs.Common.{◌≡◌, ◌<◌, ◌≤◌, ◌+◌, ◌-◌, ℕ, suc, List, [], ◌∷◌, ◌++◌, length, Some, None, ap, sym, ◌∙◌, refl, subst, arith}
use Rattle.rapid_text.specs.Recording.{Recording}
use Rattle.schedule.specs.Refusals.{next_of, refusal_of, IsRefusalOf}
use Rattle.schedule.specs.Scheduled.{Scheduled}
use Rattle.kept_session.specs.QuestionItems.{added, item, run_of}
use Rattle.kept_session.proofs.QuestionRunLemmas.{added-added, added-none, run-none, run-late, run-refused, run-more}
use Rattle.kept_session.proofs.questions.running.go_on.Goals as goal

pub returns-in_default-clause-run : goal.returns-in_default-clause-run
returns-in_default-clause-run c =
    let T = c.args.indexed.now.events in
    let P = c.loop-count.schedule.events in
    let next : next_of T P c.args.thread ≡ None = ap (λ (r : Recording). next_of r.events P c.args.thread) (sym c.loop-count.invariant.0) ∙ sym c.next_of.ensures.next ∙ c.in_default.is in
    c.loop-count.invariant.1 ∙ ap (added c.loop-count.count) (run-none T P c.args.thread c.args.last _ next) ∙ added-none c.loop-count.count c.from.result [] c.from.ensures

pub returns-then-last-next-clause-run : goal.returns-then-last-next-clause-run
returns-then-last-next-clause-run c =
    let T = c.args.indexed.now.events in
    let P = c.loop-count.schedule.events in
    let e = c.in-Some.next in
    let next : next_of T P c.args.thread ≡ Some e = ap (λ (r : Recording). next_of r.events P c.args.thread) (sym c.loop-count.invariant.0) ∙ sym c.next_of.ensures.next ∙ c.in-Some.is in
    c.loop-count.invariant.1 ∙ ap (added c.loop-count.count) (run-late T P c.args.thread c.args.last _ e next c.if-last-next.true)
    ∙ added-none c.loop-count.count c.from-then-last-next.result [] c.from-then-last-next.ensures

pub returns-in-Err-Disabled-clause-run : goal.returns-in-Err-Disabled-clause-run
returns-in-Err-Disabled-clause-run c =
    let T = c.args.indexed.now.events in
    let P = c.loop-count.schedule.events in
    let e = c.in-Some.next in
    let n = length T - c.loop-count.count in
    let trace = c.loop-count.invariant.0 in
    let next : next_of T P c.args.thread ≡ Some e = ap (λ (r : Recording). next_of r.events P c.args.thread) (sym trace) ∙ sym c.next_of.ensures.next ∙ c.in-Some.is in
    let refused : refusal_of T P e ≡ Some c.in-Err-Disabled.field-0-0 =
    ap (λ (r : Recording). refusal_of r.events P e) (sym trace) ∙ subst (IsRefusalOf c.loop-count.schedule.trace.events P e) c.in-Err-Disabled.field-0-is c.in-Err-Disabled.ensures.refused in
    let same : c.extend.new.self.events ≡ P = ap (λ (s : Scheduled). s.events) c.in-Err-Disabled.ensures.err in
    let left : 0 < n = omega (arith, c.loop-count-test.true, c.len-count-end.ensures.len) in
    let within : e ≤ c.args.last = omega (arith, c.if-last-next.false) in
    c.loop-count.invariant.1
    ∙ ap (added c.loop-count.count) (run-refused T P c.args.thread c.args.last n e c.in-Err-Disabled.field-0-0 left next within refused)
    ∙ added-none c.loop-count.count c.from-in-Err-Disabled.result (item T P e) c.from-in-Err-Disabled.ensures
    ∙ ap (λ (Q : List ℕ). (c.from-in-Err-Disabled.result, item T Q e)) (sym same)

pub loop-count-preserved : goal.loop-count-preserved
loop-count-preserved c =
    let T = c.args.indexed.now.events in
    let P = c.loop-count.schedule.events in
    let e = c.in-Some.next in
    let n = length T - c.loop-count.count in
    let m = length T - (c.loop-count.count + 1) in
    let trace = c.loop-count.invariant.0 in
    let next : next_of T P c.args.thread ≡ Some e = ap (λ (r : Recording). next_of r.events P c.args.thread) (sym trace) ∙ sym c.next_of.ensures.next ∙ c.in-Some.is in
    let free : refusal_of T P e ≡ None = ap (λ (r : Recording). refusal_of r.events P e) (sym trace) ∙ c.in-Ok.ensures.none in
    let longer : c.extend.new.self.events ≡ P ++ e ∷ [] = c.in-Ok.ensures.ok in
    let one : n ≡ suc m = omega (arith, c.loop-count-test.true, c.len-count-end.ensures.len) in
    let within : e ≤ c.args.last = omega (arith, c.if-last-next.false) in (
      c.extend.ensures.trace ∙ trace,
      c.loop-count.invariant.1
          ∙ ap (added c.loop-count.count) (run-more T P c.args.thread c.args.last n m e one next within free)
          ∙ added-added c.loop-count.count 1 (c.loop-count.count + 1) (run_of m T (P ++ e ∷ []) c.args.thread c.args.last) refl
          ∙ ap (λ (Q : List ℕ). added (c.loop-count.count + 1) (run_of m T Q c.args.thread c.args.last)) (sym longer),
    )

pub returns-clause-run : goal.returns-clause-run
returns-clause-run c =
    let left : length c.args.indexed.now.events - c.loop-count.count ≡ 0 = omega (arith, c.loop-count-test.false, c.len.ensures.len) in
    c.loop-count.invariant.1
    ∙ ap (λ (n : ℕ). added c.loop-count.count (run_of n c.args.indexed.now.events c.loop-count.schedule.events c.args.thread c.args.last)) left
    ∙ added-none c.loop-count.count c.from-2.result [] (omega (arith, c.from-2.ensures, c.loop-count.auto.count-end, c.loop-count-test.false, c.len.ensures.len))
