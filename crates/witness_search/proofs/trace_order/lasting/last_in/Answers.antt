use Rattle.std.proofs.Common.{ℕ, ◌<◌, List, Contains, IfSome, get_or, length, refl, subst}
use Rattle.must_order.proofs.OwedLemmas.{if_some}
use Rattle.witness_search.specs.trace_order.Joining.{IsLastUpTo, IsLastCounted}
use Rattle.witness_search.proofs.trace_order.LastLemmas.{last_counted, none_counted, member_within}
use Rattle.witness_search.proofs.trace_order.lasting.last_in.Goals as goal

pub returns-clause-last : goal.returns-clause-last
returns-clause-last c =
    let r = c.args.indexed.now in
    let row : ℕ → ℕ = λ t. get_or c.args.row.now t 0 in
    let lane = c.args.lane.now in
    let found = subst (λ (ys : List ℕ). IfSome c.last_up_to.result (IsLastUpTo ys c.in_ok-end.end)) c.as_slice.ensures.value c.last_up_to.ensures.last in
    if_some c.last_up_to.result (IsLastUpTo lane.events.items c.in_ok-end.end) (IsLastCounted r.events row lane.events.items)
    (λ p f. last_counted r row c.args.lock lane c.requires.lane c.in_ok-end.end c.in_ok-end.ensures.end p f) found

pub returns-clause-within : goal.returns-clause-within
returns-clause-within c =
    let r = c.args.indexed.now in
    let lane = c.args.lane.now in
    let found = subst (λ (ys : List ℕ). IfSome c.last_up_to.result (IsLastUpTo ys c.in_ok-end.end)) c.as_slice.ensures.value c.last_up_to.ensures.last in
    if_some c.last_up_to.result (IsLastUpTo lane.events.items c.in_ok-end.end) (λ p. p < length r.events)
    (λ p f. member_within r (λ t. get_or c.args.row.now t 0) c.args.lock lane c.requires.lane p f.member) found

pub returns-clause-none : goal.returns-clause-none
returns-clause-none c =
    let r = c.args.indexed.now in
    λ none.
    none_counted r (λ t. get_or c.args.row.now t 0) c.args.lock c.args.lane.now c.requires.lane c.in_ok-end.end c.in_ok-end.ensures.end
    (subst (λ (ys : List ℕ). (q : ℕ) → Contains ys q → c.in_ok-end.end < q) c.as_slice.ensures.value (c.last_up_to.ensures.none none))

pub returns-in_err-end-clause-none : goal.returns-in_err-end-clause-none
returns-in_err-end-clause-none c = λ _ q it counted. c.in_err-end.ensures.none refl q ((c.requires.lane.members q).0 it).1 counted
