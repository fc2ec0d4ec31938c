use Rattle.std.proofs.Common.{◌++◌, ℕ, List, subst, sym}
use Rattle.std.proofs.lemmas.Result.{IfOk-weaker}
use Rattle.window.specs.Fronts.{IsLongestBy, IsOver}
use Rattle.window.specs.Streams.{IsKept, IsWhole}
use Rattle.window.proofs.FrontLemmas.{front_of, keeps_on, longest_on}
use Rattle.window.proofs.front.Front.window_behind.Goals as goal

pub returns-clause-to : goal.returns-clause-to
returns-clause-to c =
    let more = c.args.more.now in
    IfOk-weaker c.window_after.result _ _
    (λ w longest.
    longest_on c.args.self.now.read c.args.head.now.text.items more c.args.most w c.requires.stands
    (subst (λ (t : List ℕ). IsLongestBy (IsOver t more) more c.args.most w) c.as_slice-text.ensures.value longest))
    c.window_after.ensures.longest

pub returns-clause-kept : goal.returns-clause-kept
returns-clause-kept c =
    let s = c.args.self.now in
    let more = c.args.more.now in
    let front = front_of _ _ _ _ _ s c.self.view_is c.self.invariant in
    IfOk-weaker c.window_after.result _ _
    (λ w kept.
    keeps_on s.read c.args.head.now.text.items more front.unrefused c.requires.stands
    (subst (λ (t : List ℕ). IsKept (t ++ more)) c.as_slice-text.ensures.value kept))
    c.window_after.ensures.kept

pub window_after-requires-clause-whole : goal.window_after-requires-clause-whole
window_after-requires-clause-whole c = subst IsWhole (sym c.as_slice-text.ensures.value) c.requires.stands.ends
