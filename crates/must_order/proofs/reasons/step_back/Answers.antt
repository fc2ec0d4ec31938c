use Rattle.std.proofs.Common.{◌≡◌, Some, Option, length, refl, subst, arith}
use Rattle.std.specs.List.{slice_get}
use Rattle.std.specs.Option.{IfSome}
use Rattle.std.proofs.lemmas.Option.{slice_get_read}
use Rattle.must_order.specs.MustBefore.{EndsFirst, IsMustBefore}
use Rattle.must_order.specs.declared.chains.Reason.TheVariants.{Ended}
use Rattle.must_order.specs.declared.joins.Join.{Join}
use Rattle.must_order.proofs.ReasonLemmas.{KeepsMarks-set, marked}
use Rattle.must_order.proofs.reasons.step_back.Goals as goal

pub returns-clause-earlier : goal.returns-clause-earlier
returns-clause-earlier c =
    let js = c.args.joins.now.list.items in
    let j = c.index-join.result.now in
    let at : slice_get js c.join_back-at.result ≡ Some j = slice_get_read js (length js) c.join_back-at.result j refl (omega (arith, c.join_back-at.ensures.below, c.requires.high)) c.index-join.ensures in
    let found = subst (λ (o : Option Join). IfSome o (λ k. (k.event ≡ c.args.event) × IsMustBefore c.args.indexed.now.events c.args.first k.release)) at c.join_back-at.ensures.found in
    omega (arith, (c.requires.known.joins c.join_back-at.result j at).earlier, found.0)

pub returns-clause-before : goal.returns-clause-before
returns-clause-before c =
    let js = c.args.joins.now.list.items in
    let j = c.index-join.result.now in
    let at : slice_get js c.join_back-at.result ≡ Some j = slice_get_read js (length js) c.join_back-at.result j refl (omega (arith, c.join_back-at.ensures.below, c.requires.high)) c.index-join.ensures in
    (subst (λ (o : Option Join). IfSome o (λ k. (k.event ≡ c.args.event) × IsMustBefore c.args.indexed.now.events c.args.first k.release)) at c.join_back-at.ensures.found).1

pub returns-clause-reason : goal.returns-clause-reason
returns-clause-reason c =
    let js = c.args.joins.now.list.items in
    let j = c.index-join.result.now in
    let at : slice_get js c.join_back-at.result ≡ Some j = slice_get_read js (length js) c.join_back-at.result j refl (omega (arith, c.join_back-at.ensures.below, c.requires.high)) c.index-join.ensures in
    let found = subst (λ (o : Option Join). IfSome o (λ k. (k.event ≡ c.args.event) × IsMustBefore c.args.indexed.now.events c.args.first k.release)) at c.join_back-at.ensures.found in
    subst (EndsFirst c.args.indexed.now.events j.acquire j.release) found.0 (c.requires.known.joins c.join_back-at.result j at).ends

pub returns-clause-section : goal.returns-clause-section
returns-clause-section c =
    let js = c.args.joins.now.list.items in
    let j = c.index-join.result.now in
    let at : slice_get js c.join_back-at.result ≡ Some j = slice_get_read js (length js) c.join_back-at.result j refl (omega (arith, c.join_back-at.ensures.below, c.requires.high)) c.index-join.ensures in
    let found = subst (λ (o : Option Join). IfSome o (λ k. (k.event ≡ c.args.event) × IsMustBefore c.args.indexed.now.events c.args.first k.release)) at c.join_back-at.ensures.found in
    λ p is. record {
      at = c.join_back-at.result;
      below = c.join_back-at.ensures.below;
      marked = marked c.args.needed.now.items c.join_back-at.result (omega (arith, c.join_back-at.ensures.below, c.requires.high, c.requires.marks));
      join = j;
      found = at;
      acquire = (let one : Ended j.acquire ≡ Ended p = is in cc);
      event = found.0;
    }

pub returns-clause-marks : goal.returns-clause-marks
returns-clause-marks c = KeepsMarks-set c.args.needed.now.items c.join_back-at.result
