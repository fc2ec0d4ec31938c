use Rattle.std.proofs.Common.{◌≡◌, ◌+◌, slice_index, slice_index_or, sym, subst, arith}
use Rattle.std.proofs.lemmas.Option.{get_or_from_slice_get}
use Rattle.race_groups.specs.declared.kinds.Row.{Row}
use Rattle.race_triage.specs.Verdicts.{IsAnswered, IsOwn}
use Rattle.race_triage.proofs.OnceLemmas.{AreOn-weaker, added_all, added_answers, added_keeps, added_on}
use Rattle.race_triage.proofs.workers.add_own.Goals as goal

pub returns-clause-answered : goal.returns-clause-answered
returns-clause-answered g c =
    let found = c.args.found.now in
    let rows = found.groups.rows.items in
    let added = c.in_ok-add.ensures in
    λ own d.
    let same : slice_index_or rows c.args.at d ≡ added.0 = get_or_from_slice_get rows c.args.at added.0 d added.1 in
    subst (λ (row : Row). IsAnswered c.add.new.verdicts.items row) (sym same)
    (added_answers found.tables.indexed.now (slice_index found.tables.places.now) found.effort.tries found.effort.apart added.0 c.args.verdicts.now.items c.add.new.verdicts.items added.2)

pub returns-clause-verdicts : goal.returns-clause-verdicts
returns-clause-verdicts g c =
    let found = c.args.found.now in
    let added = c.in_ok-add.ensures in
    added_all found.tables.indexed.now (slice_index found.tables.places.now) found.effort.tries found.effort.apart added.0 c.args.verdicts.now.items c.add.new.verdicts.items
    added.2 c.requires.verdicts

pub returns-clause-kept : goal.returns-clause-kept
returns-clause-kept g c =
    let found = c.args.found.now in
    let added = c.in_ok-add.ensures in
    added_keeps found.tables.indexed.now (slice_index found.tables.places.now) found.effort.tries found.effort.apart added.0 c.args.verdicts.now.items c.add.new.verdicts.items added.2

pub returns-clause-on : goal.returns-clause-on
returns-clause-on g c =
    let found = c.args.found.now in
    let added = c.in_ok-add.ensures in
    added_on found.tables.indexed.now (slice_index found.tables.places.now) found.effort.tries found.effort.apart added.0 c.args.verdicts.now.items c.add.new.verdicts.items added.2
    found.groups.rows.items c.args.at c.args.from c.args.every c.requires.found.is.once added.1 c.if-at-every.false c.requires.on

pub returns-then-at-every-clause-on : goal.returns-then-at-every-clause-on
returns-then-at-every-clause-on g c =
    AreOn-weaker c.args.found.now.groups.rows.items (IsOwn c.args.from c.args.every c.args.at) (IsOwn c.args.from c.args.every (c.args.at + 1)) c.args.verdicts.now.items
    (λ k own. (omega (arith, own.0), own.1)) c.requires.on
