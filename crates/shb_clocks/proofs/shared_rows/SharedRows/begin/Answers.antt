use Rattle.std.proofs.Common.{List, sym, subst, arith}
use Rattle.shb_clocks.specs.SharedLayout.{AreShared}
use Rattle.shb_clocks.specs.declared.shared_rows.Row.{Row}
use Rattle.shb_clocks.specs.declared.shared_rows.Spot.{Spot}
use Rattle.shb_clocks.proofs.SharedLemmas.{AreShared-kept, AreShared-row, AreShared-spot}
use Rattle.shb_clocks.proofs.shared_rows.SharedRows.begin.Goals as goal

pub invariant_of-self-in_err-push : goal.invariant_of-self-in_err-push
invariant_of-self-in_err-push c =
    let s = c.self.inside in
    subst (λ (rows : List Row). AreShared s.spots.items rows c.add.new.self) (sym c.in_err-push.ensures.items)
    (AreShared-kept s.spots.items s.rows.items s.kept c.self.invariant c.add.new.self c.add.ensures.more)

pub invariant_of-self-in_err-push-2 : goal.invariant_of-self-in_err-push-2
invariant_of-self-in_err-push-2 c =
    let s = c.self.inside in
    let kept = AreShared-kept s.spots.items s.rows.items s.kept c.self.invariant c.add.new.self c.add.ensures.more in
    let row : Row = record { thread = c.args.thread; place = c.in_ok-place.place } in
    let begun : AreShared s.spots.items c.push.new.self.items c.add.new.self = subst (λ (rows : List Row). AreShared s.spots.items rows c.add.new.self) (sym c.in_ok-push.ensures.items) (AreShared-row s.spots.items s.rows.items c.add.new.self kept row c.in_ok-place.ensures.place) in
    subst (λ (spots : List Spot). AreShared spots c.push.new.self.items c.add.new.self) (sym c.in_err-push-2.ensures.items) begun

pub invariant_of-self-2 : goal.invariant_of-self-2
invariant_of-self-2 c =
    let s = c.self.inside in
    let kept = AreShared-kept s.spots.items s.rows.items s.kept c.self.invariant c.add.new.self c.add.ensures.more in
    let row : Row = record { thread = c.args.thread; place = c.in_ok-place.place } in
    let begun : AreShared s.spots.items c.push.new.self.items c.add.new.self = subst (λ (rows : List Row). AreShared s.spots.items rows c.add.new.self) (sym c.in_ok-push.ensures.items) (AreShared-row s.spots.items s.rows.items c.add.new.self kept row c.in_ok-place.ensures.place) in
    let spot : Spot = record { row = c.len-number.result; own = c.args.own } in
    subst (λ (spots : List Spot). AreShared spots c.push.new.self.items c.add.new.self) (sym c.in_ok-push-2.ensures.items)
    (AreShared-spot s.spots.items c.push.new.self.items c.add.new.self begun spot (omega (arith, c.len-number.ensures, c.in_ok-push.ensures.len)))
