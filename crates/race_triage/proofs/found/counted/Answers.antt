use Rattle.race_triage.proofs.found.counted.Goals as goal

pub returns-in-Ok-clause-groups : goal.returns-in-Ok-clause-groups
returns-in-Ok-clause-groups c =
    let is = c.in-Ok.ensures in
    record {
      rows = is.rows;
      complete = is.complete;
      there = is.there;
      once = is.once;
      few = is.few_rows;
    }
