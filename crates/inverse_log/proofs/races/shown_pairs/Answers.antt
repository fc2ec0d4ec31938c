use Rattle.std.proofs.Common.{◌≡◌, ◌∙◌, ℕ, ◌+◌, ◌<◌, Bool, [], length, sym, ap, arith, filter, drop}
use Rattle.std.proofs.Math.ListN.{drop_of_length-le}
use Rattle.std.proofs.lemmas.List.{append-nil, get_or_read, take_rest}
use Rattle.schedule.specs.Shows.{does_show}
use Rattle.inverse_log.specs.Pairs.{pairs_of}
use Rattle.inverse_log.proofs.PairLemmas.{shown_next, pairs_more}
use Rattle.inverse_log.proofs.races.shown_pairs.Goals as goal

pub loop-at-preserved : goal.loop-at-preserved
loop-at-preserved c =
    let T = c.args.indexed.now.events in
    let P = c.args.schedule.now.events in
    let xs = c.in_ok-next.next.items in
    let lt : c.loop-at.at < length xs = omega (arith, c.len-at-end.ensures, c.loop-at-test.true) in
    let first = get_or_read xs c.loop-at.at c.index.result.now lt c.index.ensures 0 in
    pairs_more (λ p. does_show T P p.0 p.1) xs c.loop-at.at c.index.result.now c.loop-at.pairs c.add_pairs.new.pairs lt first (rw (c.deref.ensures.value, take_rest xs (c.loop-at.at + 1)) at c.in_ok-add_pairs.ensures) ∙ c.loop-at.invariant

pub returns : goal.returns
returns c =
    let T = c.args.indexed.now.events in
    let P = c.args.schedule.now.events in
    let q : ℕ × ℕ → Bool = λ p. does_show T P p.0 p.1 in
    let none : drop c.loop-at.at c.in_ok-next.next.items ≡ [] = drop_of_length-le c.in_ok-next.next.items (omega (arith, c.len-at-end.ensures)) in
    let all : c.loop-at.pairs ≡ filter q (pairs_of c.in_ok-next.next.items) = sym (append-nil c.loop-at.pairs) ∙ (rw none at c.loop-at.invariant) in
    all ∙ ap (λ xs. filter q (pairs_of xs)) c.in_ok-next.ensures ∙ sym (shown_next T P)
