use Rattle.std.proofs.Common.{◌≡◌, ◌-◌, ◌+◌, ◌++◌, List, ℕ, Option, Bor, map, sym, ◌∙◌, subst, arith}
use Rattle.std.specs.Option.{option_map}
use Rattle.serde_json.specs.View.{view}
use Rattle.explain_report.specs.places.Places.{calls_in}
use Rattle.explain_report.specs.declared.places.arrows.TheConstants.{MAX_CALLS}
use Rattle.triage_report.specs.sarif.Stacks.{call_frame}
use Rattle.triage_report.proofs.sarif.FrameLemmas.{frames-end, frames-full, frames-more}
use Rattle.triage_report.proofs.sarif.stacks.push_calls.Goals as goal

pub loop-done-preserved : goal.loop-done-preserved
loop-done-preserved c =
    let root = c.args.root.now in
    let done = c.loop-done.done in
    let left = MAX_CALLS - done in
    let all = map view c.args.list.now.items ++ map (call_frame root) (calls_in MAX_CALLS (option_map (λ (t : Bor (List ℕ)). t.now) c.args.calls)) in
    frames-more root left (MAX_CALLS - (done + 1)) (map view c.loop-done.list.items) (map view c.push_call.new.list.items) c.in-Some.text.now c.cut_at_arrow.result.0.now
    (option_map (λ (t : Bor (List ℕ)). t.now) c.cut_at_arrow.result.1) (omega (arith, c.loop-done-test.true)) (omega (arith, c.loop-done-test.true))
    c.in_ok-push_call-in-Some.ensures c.cut_at_arrow.ensures.before c.cut_at_arrow.ensures.after
    ∙ subst (λ (rest : Option (Bor (List ℕ))). map view c.loop-done.list.items ++ map (call_frame root) (calls_in left (option_map (λ (t : Bor (List ℕ)). t.now) rest)) ≡ all) c.in-Some.is
    c.loop-done.invariant

pub returns-in-None : goal.returns-in-None
returns-in-None c =
    let root = c.args.root.now in
    let left = MAX_CALLS - c.loop-done.done in
    let all = map view c.args.list.now.items ++ map (call_frame root) (calls_in MAX_CALLS (option_map (λ (t : Bor (List ℕ)). t.now) c.args.calls)) in
    sym (frames-end root left (map view c.loop-done.list.items))
    ∙ subst (λ (rest : Option (Bor (List ℕ))). map view c.loop-done.list.items ++ map (call_frame root) (calls_in left (option_map (λ (t : Bor (List ℕ)). t.now) rest)) ≡ all) c.in-None.is
    c.loop-done.invariant

pub returns : goal.returns
returns c =
    let root = c.args.root.now in
    let rest = option_map (λ (t : Bor (List ℕ)). t.now) c.loop-done.rest in
    let all = map view c.args.list.now.items ++ map (call_frame root) (calls_in MAX_CALLS (option_map (λ (t : Bor (List ℕ)). t.now) c.args.calls)) in
    let none : MAX_CALLS - c.loop-done.done ≡ 0 = omega (arith, c.loop-done-test.false) in
    sym (frames-full root (map view c.loop-done.list.items) rest)
    ∙ subst (λ (left : ℕ). map view c.loop-done.list.items ++ map (call_frame root) (calls_in left rest) ≡ all) none c.loop-done.invariant
