use Rattle.std.proofs.Common.{refl, slice_index}
use Rattle.race_triage.proofs.BetweenLemmas.{no_conflict}
use Rattle.race_triage.proofs.between.verdict_in.Goals as goal

pub returns-in-None-clause-none : goal.returns-in-None-clause-none
returns-in-None-clause-none c =
    λ _. no_conflict c.args.found.now.tables.indexed.now.events (slice_index c.args.found.now.tables.places.now) c.args.found.now.groups.rows.items c.args.between c.requires.complete
    (c.in-None.ensures.none refl)
