use Rattle.calls.proofs.triage.texts.found_of.Goals as goal

pub returns-in-Ok-clause-found : goal.returns-in-Ok-clause-found
returns-in-Ok-clause-found g c =
    let is = c.in-Ok.ensures in
    record {
      places = is.places;
      verdicts = is.verdicts;
      complete = is.complete;
      once = is.once;
      few = is.few;
      rising = is.rising;
      totals = is.totals;
    }
