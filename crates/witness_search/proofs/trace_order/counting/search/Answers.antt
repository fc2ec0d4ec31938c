use Rattle.std.proofs.Common.{◌≡◌, ◌≤◌, ◌<◌, ◌-◌, ◌+◌, ◌++◌, ◌∷◌, [], ℕ, List, true, false, get_or, length, nat_eq, refl, sym, ◌∙◌, arith}
use Rattle.std.specs.HashMap.{get}
use Rattle.witness_search.specs.Searches.{marked_events}
use Rattle.witness_search.proofs.StepLemmas.{IsSearched-start, IsSearched-more, refusal_of-next, first_shown-at, first_shown-stuck, first_shown-end, same_Ok}
use Rattle.witness_search.specs.trace_order.Counting.{counted_events, marks_of}
use Rattle.witness_search.proofs.trace_order.LeftLemmas.{left_end, left_stuck, longer_by_one}
use Rattle.witness_search.proofs.trace_order.SearchLemmas.{at_read, IsAt-kept}
use Rattle.witness_search.proofs.trace_order.counting.search.Goals as goal

pub loop-step-init : goal.loop-step-init
loop-step-init c =
    let T = c.args.indexed.now.events in
    let aim = c.args.aim.now in
    record {
      row = c.requires.row;
      list = counted_events T (λ t. get_or aim.start.items t 0);
      at = c.requires.at;
      searched =
          IsSearched-start T aim.first aim.second (marked_events T (marks_of T (λ t. get_or aim.wanted.items t 0)))
          (counted_events T (λ t. get_or aim.start.items t 0));
      long = omega arith;
      left = refl;
      all = refl;
    }

pub returns-then-is_shown-clause-shown : goal.returns-then-is_shown-clause-shown
returns-then-is_shown-clause-shown c =
    let T = c.args.indexed.now.events in
    let inv = c.loop-step.invariant in
    let start : ℕ → ℕ = λ t. get_or c.args.aim.now.start.items t 0 in
    let read = at_read T start c.loop-step.reached.row.items c.as_slice.result.now (get nat_eq c.loop-step.reached.last) inv.list c.as_slice.ensures.value inv.at in
    λ _. (
      inv.list,
      inv.at,
      first_shown-at inv.searched c.args.left.now c.loop-step.auto.step-end (sym (c.is_shown.ensures inv.list start (get nat_eq c.loop-step.reached.last) read) ∙ c.if-is_shown.true),
    )

pub next_step-requires-clause-within : goal.next_step-requires-clause-within
next_step-requires-clause-within c = c.loop-step.invariant.at.within

pub returns-in_default-clause-none : goal.returns-in_default-clause-none
returns-in_default-clause-none c =
    let T = c.args.indexed.now.events in
    let inv = c.loop-step.invariant in
    let start : ℕ → ℕ = λ t. get_or c.args.aim.now.start.items t 0 in
    let row : ℕ → ℕ = λ t. get_or c.loop-step.reached.row.items t 0 in
    let read = at_read T start c.loop-step.reached.row.items c.as_slice.result.now (get nat_eq c.loop-step.reached.last) inv.list c.as_slice.ensures.value inv.at in
    let kept = IsAt-kept T start row (get nat_eq c.loop-step.reached.last) (get nat_eq c.note_reads.new.last) inv.list inv.at c.in_ok-note_reads.ensures in
    λ _. first_shown-stuck inv.searched c.args.left.now (sym (c.is_shown.ensures inv.list start (get nat_eq c.loop-step.reached.last) read) ∙ c.if-is_shown.false)
    (sym (c.in_default.ensures.next inv.list kept))

pub returns-in_default-clause-left : goal.returns-in_default-clause-left
returns-in_default-clause-left c =
    let T = c.args.indexed.now.events in
    let aim = c.args.aim.now in
    let inv = c.loop-step.invariant in
    let start : ℕ → ℕ = λ t. get_or aim.start.items t 0 in
    let row : ℕ → ℕ = λ t. get_or c.loop-step.reached.row.items t 0 in
    let N = marked_events T (marks_of T (λ t. get_or aim.wanted.items t 0)) in
    let kept = IsAt-kept T start row (get nat_eq c.loop-step.reached.last) (get nat_eq c.note_reads.new.last) inv.list inv.at c.in_ok-note_reads.ensures in
    λ _. left_stuck T aim.first aim.second N (counted_events T start) c.loop-step.step inv.list inv.searched inv.long (sym (c.in_default.ensures.next inv.list kept))
    c.args.left.now (c.args.left.now - c.loop-step.step) c.loop-step.auto.step-end refl

pub take_step-requires-clause-within : goal.take_step-requires-clause-within
take_step-requires-clause-within c = c.loop-step.invariant.at.within

pub loop-step-preserved : goal.loop-step-preserved
loop-step-preserved c =
    let T = c.args.indexed.now.events in
    let aim = c.args.aim.now in
    let inv = c.loop-step.invariant in
    let start : ℕ → ℕ = λ t. get_or aim.start.items t 0 in
    let N = marked_events T (marks_of T (λ t. get_or aim.wanted.items t 0)) in
    let read = at_read T start c.loop-step.reached.row.items c.as_slice.result.now (get nat_eq c.loop-step.reached.last) inv.list c.as_slice.ensures.value inv.at in
    let row : ℕ → ℕ = λ t. get_or c.loop-step.reached.row.items t 0 in
    let kept = IsAt-kept T start row (get nat_eq c.loop-step.reached.last) (get nat_eq c.note_reads.new.last) inv.list inv.at c.in_ok-note_reads.ensures in
    let next = sym (c.in-Some.ensures.next inv.list kept) in
    record {
      row = c.take_step.ensures.row;
      list = inv.list ++ c.in-Some.event ∷ [];
      at = c.in_ok-take_step.ensures.at inv.list start kept (refusal_of-next T aim.first aim.second N inv.list c.in-Some.event next);
      searched =
          IsSearched-more inv.searched (sym (c.is_shown.ensures inv.list start (get nat_eq c.loop-step.reached.last) read) ∙ c.if-is_shown.false) c.in-Some.event next;
      long = longer_by_one inv.list c.in-Some.event _ inv.long ∙ omega arith;
      left = inv.left;
      all = inv.all;
    }

pub returns-clause-shown : goal.returns-clause-shown
returns-clause-shown c =
    let T = c.args.indexed.now.events in
    let inv = c.loop-step.invariant in
    let start : ℕ → ℕ = λ t. get_or c.args.aim.now.start.items t 0 in
    let read = at_read T start c.loop-step.reached.row.items c.as_slice-2.result.now (get nat_eq c.loop-step.reached.last) inv.list c.as_slice-2.ensures.value inv.at in
    λ is. (
      inv.list,
      inv.at,
      first_shown-at inv.searched c.args.left.now c.loop-step.auto.step-end
          (sym (c.is_shown-2.ensures inv.list start (get nat_eq c.loop-step.reached.last) read) ∙ same_Ok c.is_shown-2.result true is),
    )

pub returns-clause-none : goal.returns-clause-none
returns-clause-none c =
    let T = c.args.indexed.now.events in
    let inv = c.loop-step.invariant in
    let start : ℕ → ℕ = λ t. get_or c.args.aim.now.start.items t 0 in
    let read = at_read T start c.loop-step.reached.row.items c.as_slice-2.result.now (get nat_eq c.loop-step.reached.last) inv.list c.as_slice-2.ensures.value inv.at in
    let end : c.args.left.now ≤ c.loop-step.step = c.loop-step-test.false in
    λ is.
    first_shown-end inv.searched c.args.left.now (omega (arith, end, c.loop-step.auto.step-end))
    (sym (c.is_shown-2.ensures inv.list start (get nat_eq c.loop-step.reached.last) read) ∙ same_Ok c.is_shown-2.result false is)

pub returns-clause-left : goal.returns-clause-left
returns-clause-left c =
    let T = c.args.indexed.now.events in
    let aim = c.args.aim.now in
    let inv = c.loop-step.invariant in
    let start : ℕ → ℕ = λ t. get_or aim.start.items t 0 in
    let N = marked_events T (marks_of T (λ t. get_or aim.wanted.items t 0)) in
    let end : c.args.left.now ≤ c.loop-step.step = c.loop-step-test.false in
    λ _. left_end T aim.first aim.second N (counted_events T start) c.loop-step.step inv.list inv.searched inv.long c.args.left.now
    (omega (arith, end, c.loop-step.auto.step-end))
