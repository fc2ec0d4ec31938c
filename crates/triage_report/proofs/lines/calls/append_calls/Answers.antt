use Rattle.std.proofs.Common.{◌≡◌, ◌-◌, ◌+◌, ◌++◌, List, ℕ, Option, Bor, sym, ◌∙◌, subst, arith}
use Rattle.std.specs.Option.{option_map}
use Rattle.explain_report.specs.places.Places.{behind_arrow, calls_in}
use Rattle.explain_report.specs.declared.places.arrows.TheConstants.{MAX_CALLS}
use Rattle.triage_report.specs.lines.Lines.{call_lines}
use Rattle.triage_report.proofs.lines.CallLemmas.{call_lines-end, call_lines-full, call_lines-more}
use Rattle.triage_report.proofs.lines.calls.append_calls.Goals as goal

pub loop-done-preserved : goal.loop-done-preserved
loop-done-preserved c =
    let folder = c.args.folder.now in
    let place = c.args.place.now in
    let done = c.loop-done.done in
    let left = MAX_CALLS - done in
    let all = c.args.out.now.items ++ call_lines folder place (calls_in MAX_CALLS (behind_arrow c.args.location.now)) in
    call_lines-more folder place left (MAX_CALLS - (done + 1)) c.loop-done.out.items c.append_call.new.out.items c.in-Some.text.now c.cut_at_arrow-in-Some.result.0.now
    (option_map (λ (t : Bor (List ℕ)). t.now) c.cut_at_arrow-in-Some.result.1) (omega (arith, c.loop-done-test.true)) (omega (arith, c.loop-done-test.true))
    c.in_ok-append_call-in-Some.ensures c.cut_at_arrow-in-Some.ensures.before c.cut_at_arrow-in-Some.ensures.after
    ∙ subst (λ (rest : Option (Bor (List ℕ))). c.loop-done.out.items ++ call_lines folder place (calls_in left (option_map (λ (t : Bor (List ℕ)). t.now) rest)) ≡ all) c.in-Some.is
    c.loop-done.invariant

pub returns-in-None : goal.returns-in-None
returns-in-None c =
    let folder = c.args.folder.now in
    let place = c.args.place.now in
    let left = MAX_CALLS - c.loop-done.done in
    let all = c.args.out.now.items ++ call_lines folder place (calls_in MAX_CALLS (behind_arrow c.args.location.now)) in
    sym (call_lines-end folder place left c.loop-done.out.items)
    ∙ subst (λ (rest : Option (Bor (List ℕ))). c.loop-done.out.items ++ call_lines folder place (calls_in left (option_map (λ (t : Bor (List ℕ)). t.now) rest)) ≡ all) c.in-None.is
    c.loop-done.invariant

pub returns : goal.returns
returns c =
    let folder = c.args.folder.now in
    let place = c.args.place.now in
    let rest = option_map (λ (t : Bor (List ℕ)). t.now) c.loop-done.rest in
    let all = c.args.out.now.items ++ call_lines folder place (calls_in MAX_CALLS (behind_arrow c.args.location.now)) in
    let none : MAX_CALLS - c.loop-done.done ≡ 0 = omega (arith, c.loop-done-test.false) in
    sym (call_lines-full folder place c.loop-done.out.items rest)
    ∙ subst (λ (left : ℕ). c.loop-done.out.items ++ call_lines folder place (calls_in left rest) ≡ all) none c.loop-done.invariant
