use Rattle.std.proofs.Common.{◌≡◌, suc, ◌+◌, None, take, get_or, sym, ap, ◌∙◌, arith}
use Rattle.std.specs.Map.{lookup}
use Rattle.std.proofs.lemmas.Option.{slice_get-get_or}
use Rattle.schedule.specs.Keys.{key_eq, key_eq_equiv}
use Rattle.schedule.specs.declared.latest.Key.TheVariants.{Variable}
use Rattle.schedule.proofs.SlotLemmas.{Slot, none_next, place_is}
use Rattle.schedule.proofs.latest_table.place_of.Goals as goal

-- what stands for a place where there is none
abbrev nobody : Slot
nobody = (Variable 0, None)

pub returns-then-eq-clause-some : goal.returns-then-eq-clause-some
returns-then-eq-clause-some c =
    let es = c.args.near.now in
    let i = c.loop-at.at in
    place_is c.args.key es i (get_or es i nobody) (slice_get-get_or es i nobody c.loop-at-test.true) (sym c.if-eq.ensures) c.loop-at.invariant

pub loop-at-preserved : goal.loop-at-preserved
loop-at-preserved c =
    let es = c.args.near.now in
    let i = c.loop-at.at in
    let k = c.args.key in
    let e = get_or es i nobody in
    let up : i + 1 ≡ suc i = omega arith in
    ap (λ n. lookup (key_eq k) (take n es)) up
    ∙ none_next k es i e (slice_get-get_or es i nobody c.loop-at-test.true) (key_eq_equiv.symm k e.0 ∙ sym c.if-eq.ensures) c.loop-at.invariant
