use Rattle.std.proofs.Common.{◌≡◌, ◌∷◌, ◌∙◌, suc, sym, arith}
use Rattle.std.specs.Vec.Iter.{into_iter_items}
use Rattle.calls.proofs.ToldLemmas.{putting-more}
use Rattle.calls.proofs.seating.give_all.Goals as goal

pub give_back-requires : goal.give_back-requires
give_back-requires c =
    let steps : into_iter_items c.loop-seat.seat-iterator ≡ (c.in-Some.seat, c.in-Some.lines) ∷ into_iter_items c.next.new.self = c.in-Some.ensures.steps.0 in
    let all = rw steps at c.loop-seat.invariant.theirs in
    all 0 (c.in-Some.seat, c.in-Some.lines) (omega arith)

pub loop-seat-preserved : goal.loop-seat-preserved
loop-seat-preserved c =
    let steps : into_iter_items c.loop-seat.seat-iterator ≡ (c.in-Some.seat, c.in-Some.lines) ∷ into_iter_items c.next.new.self = c.in-Some.ensures.steps.0 in
    let all = rw steps at c.loop-seat.invariant.theirs in
    let text = rw c.number.ensures at c.append_next-outcome.ensures.ok in
    let put = rw steps at c.loop-seat.invariant.put in
    record {
      theirs = λ k d below. all (suc k) d (omega arith) ∙ sym c.give_back.ensures.site;
      site = c.give_back.ensures.site ∙ c.loop-seat.invariant.site;
      put = putting-more _ _ _ _ _ _ (c.in-Some.seat, c.in-Some.lines) _ put _ _ _ c.append_next-outcome.ensures.before text c.give_back.ensures.back;
    }
