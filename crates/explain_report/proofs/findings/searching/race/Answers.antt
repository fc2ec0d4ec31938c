use Rattle.explain_report.proofs.findings.searching.race.Goals as goal

pub fewer_runs-requires-clause-reordering : goal.fewer_runs-requires-clause-reordering
fewer_runs-requires-clause-reordering c = rw c.indexed.ensures c.requires.reordering

pub fewer_runs-requires-clause-shows : goal.fewer_runs-requires-clause-shows
fewer_runs-requires-clause-shows c = rw c.indexed.ensures c.requires.shows

pub returns : goal.returns
returns c = (
  simp c.indexed.ensures at c.in_ok-events.ensures.reordering,
  simp c.indexed.ensures at c.in_ok-events.ensures.shows,
  c.requires.how,
  (c.args.list.now, c.requires.found, c.in_ok-events.ensures.same),
)
