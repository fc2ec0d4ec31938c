use Rattle.std.proofs.Common.{◌≡◌, ◌∙◌, Bool, true, false, sym, ap}
use Rattle.std.specs.List.{list_any}
use Rattle.calls.proofs.triage.SpotLemmas.{is_text, AreKept-insert, IsSpot-found, IsSpot-insert}
use Rattle.calls.proofs.triage.leaving.listed.add.Goals as goal

pub returns-in-Some : goal.returns-in-Some
returns-in-Some c =
    record { spot = (c.in-Some._at, IsSpot-found c.args.locations.now.keys c.args.location.now c.in-Some._at (sym c.in-Some.ensures.index)); kept = λ name k is. is }

pub returns : goal.returns
returns c =
    let old = c.args.locations.now.keys in
    let new = c.insert_full.new.self.keys in
    let name = c.args.location.now in
    let absent : list_any (is_text name) old ≡ false = sym c.in_default.ensures.found in
    record {
      spot =
          (_, IsSpot-insert old new c.in_ok-owned.owned name _ c.in_ok-owned.ensures.items absent c.in_ok-insert_full.ensures.keys c.in_ok-insert_full.ensures.index);
      kept = AreKept-insert old new c.in_ok-owned.owned _ c.in_ok-insert_full.ensures.keys;
    }
