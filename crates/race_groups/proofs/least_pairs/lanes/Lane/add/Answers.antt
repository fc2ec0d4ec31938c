use Rattle.std.proofs.Common.{◌≡◌, ◌∙◌, Contains, Some, length, refl, sym, ap, arith}
use Rattle.std.specs.List.{slice_get}
use Rattle.std.proofs.lemmas.Option.{same_Some, slice_get_read, slice_get_within}
use Rattle.race_groups.specs.least_pairs.Making.{IsOfBunch}
use Rattle.race_groups.specs.declared.least_pairs.lanes.Bunch.{Bunch}
use Rattle.race_groups.proofs.least_pairs.BunchLemmas.{AreBunchesMore-set, IsOfBunch-from, if_some}
use Rattle.race_groups.proofs.least_pairs.lanes.Lane.add.Goals as goal

pub returns-clause-added : goal.returns-clause-added
returns-clause-added c =
    let bunches = c.bunch_number.new.bunches.items in
    let at = c.in_ok-at.at in
    let was = c.index_mut.result.now in
    let told = c.in_ok-at.ensures.found in
    let there : slice_get bunches at ≡ Some was = slice_get_read bunches (length bunches) at was refl (slice_get_within bunches at told.bunch told.at) c.index_mut.ensures.value in
    let of_class : was.class ≡ c.args.access.class = ap (λ (g : Bunch). g.class) (same_Some was told.bunch (sym there ∙ told.at)) ∙ told.class_is in
    let larger = c.max-self.ensures in
    record {
      thread = refl;
      is_writing = refl;
      events = c.in_ok-push.ensures.items;
      places = c.in_ok-push-2.ensures.items;
      last = (omega (arith, larger), omega (arith, larger));
      bunches =
          AreBunchesMore-set c.args.access.class c.args.access.event at c.args.self.now.bunches.items bunches
          was c.put.new.self c.in_ok-at.ensures.grown there of_class c.in_ok-previous.ensures.class c.in_ok-previous.ensures.events;
    }

pub returns-clause-previous : goal.returns-clause-previous
returns-clause-previous c =
    let bunches = c.bunch_number.new.bunches.items in
    let at = c.in_ok-at.at in
    let was = c.index_mut.result.now in
    let told = c.in_ok-at.ensures.found in
    let there : slice_get bunches at ≡ Some was = slice_get_read bunches (length bunches) at was refl (slice_get_within bunches at told.bunch told.at) c.index_mut.ensures.value in
    let of_class : was.class ≡ c.args.access.class = ap (λ (g : Bunch). g.class) (same_Some was told.bunch (sym there ∙ told.at)) ∙ told.class_is in
    if_some c.in_ok-previous.previous (Contains was.events.items) (IsOfBunch c.args.self.now.bunches.items c.args.access.class)
    (IsOfBunch-from c.args.access.class c.args.access.event at c.args.self.now.bunches.items bunches was c.put.new.self c.in_ok-at.ensures.grown there of_class)
    c.in_ok-previous.ensures.last
