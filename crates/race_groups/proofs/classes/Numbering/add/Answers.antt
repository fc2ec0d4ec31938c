use Rattle.std.proofs.Common.{◌≡◌, true, ◌+◌, slice_index, refl, sym, subst, List, ℕ, arith}
use Rattle.event_index.proofs.CallerLemmas.{op_here}
use Rattle.event_index.specs.Relations.{is_access}
use Rattle.race_groups.specs.Building.{AreNumbered}
use Rattle.race_groups.specs.Holding.{AreLocksOf}
use Rattle.race_groups.specs.declared.class.Class.{Class}
use Rattle.race_groups.proofs.BuildLemmas.{AreNumbered-push}
use Rattle.race_groups.proofs.classes.Numbering.add.Goals as goal

pub number-requires-clause-few : goal.number-requires-clause-few
number-requires-clause-few c = omega (arith, c.requires.numbered.few_lists, c.requires.event, c.len-len.ensures.well_formed.events)

pub returns-clause-numbered : goal.returns-clause-numbered
returns-clause-numbered c =
    let T = c.args.holds.indexed.now.events in
    let place = slice_index c.args.places.now in
    let n = c.args.event in
    let s = c.args.self.now in
    let v = c.event.result in
    let lists = c.number.new.lists.keys in
    let op = op_here T n v c.event.ensures.found in
    let class : Class = record { place = place n; op = v.op; held = c.in_ok-held.held } in
    let locks : (x : ℕ) → is_access x class.op ≡ true → AreLocksOf T lists n class.held = λ x accessed. c.in_ok-held.ensures.at x v.op op accessed in
    let pushed = AreNumbered-push T place n s.numbers.items s.infos.items c.class_number.new.infos.items s.lists.keys lists c.in_ok-number.number class c.requires.numbered c.in_ok-number.ensures.found op refl c.in_ok-held.ensures.grown locks c.in_ok-number.ensures.grown in
    subst (λ (xs : List ℕ). AreNumbered T place (n + 1) xs c.class_number.new.infos.items lists) (sym c.in_ok-push.ensures.items) pushed
