-- So far the verdicts of the part among the first of all were considered.
use Rattle.std.proofs.Common.{filter, map, take}
use Rattle.race_triage.specs.Chosen.{is_of, known_places, AreConsidered}
use Rattle.race_triage.proofs.chosen.Chosen.choose.Given as goal

abbrev pub invariant-loop-verdict : goal.invariant-loop-verdict
invariant-loop-verdict l =
    AreConsidered l.indexed (known_places l.known) (map (λ t. t.now) l.filters.only.now) (map (λ t. t.now) l.filters.hide.now)
    (filter (is_of l.part) (take l.verdict-index l.all)) l.fn.self l.self
