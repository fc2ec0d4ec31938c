use Rattle.std.proofs.Common.{◌≡◌, ℕ, true, false, sym, subst}
use Rattle.std.specs.List.{list_any}
use Rattle.std.proofs.lemmas.Result.{IfOk-weaker}
use Rattle.race_triage.specs.Places.{IsSpot}
use Rattle.race_triage.proofs.PlaceLemmas.{is_text, IsSpot-insert, with_text-insert, with_text-there}
use Rattle.race_triage.proofs.places.number_of.Goals as goal

pub returns-clause-at : goal.returns-clause-at
returns-clause-at c =
    let old = c.args.locations.now.keys in
    let new = c.insert_full.new.self.keys in
    let name = c.args.location.now in
    let absent : list_any (is_text name) old ≡ false = sym c.in_default.ensures.found in
    let spot = IsSpot-insert old new c.in_ok-owned.owned name c.in_ok-at.at c.in_ok-owned.ensures.items absent c.in_ok-at.ensures.keys c.in_ok-at.ensures.index in
    IfOk-weaker c.small-2.result _ _ (λ n is. subst (λ (m : ℕ). IsSpot new name m) (sym is) spot) c.small-2.ensures

pub returns-in-Some-clause-noted : goal.returns-in-Some-clause-noted
returns-in-Some-clause-noted c =
    let old = c.args.locations.now.keys in
    let name = c.args.location.now in
    let there : list_any (is_text name) old ≡ true = sym c.in-Some.ensures.found in
    IfOk-weaker c.small.result _ _ (λ n is. with_text-there old name there) c.small.ensures

pub returns-clause-noted : goal.returns-clause-noted
returns-clause-noted c =
    let old = c.args.locations.now.keys in
    let new = c.insert_full.new.self.keys in
    let name = c.args.location.now in
    let absent : list_any (is_text name) old ≡ false = sym c.in_default.ensures.found in
    let noted = with_text-insert old new c.in_ok-owned.owned name c.in_ok-owned.ensures.items absent c.in_ok-at.ensures.keys in
    IfOk-weaker c.small-2.result _ _ (λ n is. noted) c.small-2.ensures
