use Rattle.std.proofs.Common.{refl, slice_index}
use Rattle.race_triage.proofs.SettledLemmas.{named, unnamed}
use Rattle.race_triage.proofs.settling.apart_of.Goals as goal

pub returns-then-found-clause-verdict : goal.returns-then-found-clause-verdict
returns-then-found-clause-verdict c =
    let found = c.args.found.now in
    named found.tables.indexed.now (slice_index found.tables.places.now) found.effort.tries found.effort.apart c.args.verdict _ c.requires.verdict c.requires.undecided
    c.requires.never refl refl refl c.if-found.true refl refl

pub returns-clause-verdict : goal.returns-clause-verdict
returns-clause-verdict c =
    let found = c.args.found.now in
    unnamed found.tables.indexed.now (slice_index found.tables.places.now) found.effort.tries found.effort.apart c.args.verdict _ c.requires.verdict c.requires.undecided
    c.requires.never refl refl refl c.if-found.false refl refl
