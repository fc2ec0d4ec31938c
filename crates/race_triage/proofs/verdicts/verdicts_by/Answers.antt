use Rattle.std.specs.Prelude.{⊤}
use Rattle.std.proofs.Common.{slice_index, subst, sym, arith}
use Rattle.race_groups.specs.Found.{AreComplete}
use Rattle.race_triage.specs.Verdicts.{AreAllTold}
use Rattle.race_triage.specs.declared.tables.Tables.{Tables}
use Rattle.race_triage.proofs.OnceLemmas.{AreOn-few}
use Rattle.race_triage.proofs.WorkerLemmas.{AreAllTold-from}
use Rattle.race_triage.proofs.verdicts.verdicts_by.Goals as goal

pub in_order-requires-clause-verdicts : goal.in_order-requires-clause-verdicts
in_order-requires-clause-verdicts g c =
    let found = c.in_ok-found.found in
    let rows = found.groups.rows.items in
    let complete = subst (λ (t : Tables). AreComplete t.indexed.now.events (slice_index t.places.now) rows) (sym c.in_ok-found.ensures.tables) c.in_ok-found.ensures.complete in
    let le = AreOn-few rows (λ at. ⊤) c.in-Ok.verdicts.items c.in-Ok.ensures.on in
    record {
      verdicts = c.in-Ok.ensures.verdicts;
      complete = AreAllTold-from found.tables.indexed.now (slice_index found.tables.places.now) found.effort.tries found.effort.apart rows c.in-Ok.verdicts.items complete c.in-Ok.ensures;
      once = c.in-Ok.ensures.on.once;
      few = omega (arith, le, c.in_ok-found.ensures.few);
    }

pub returns-in-Ok-clause-complete : goal.returns-in-Ok-clause-complete
returns-in-Ok-clause-complete g c =
    subst (λ (t : Tables). AreAllTold t.indexed.now.events (slice_index t.places.now) c.in_ok-in_order-in-Ok.field-0.items) c.in_ok-found.ensures.tables
    c.in_ok-in_order-in-Ok.ensures.verdicts.complete
