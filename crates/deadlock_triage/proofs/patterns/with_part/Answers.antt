use Rattle.std.proofs.Common.{refl, slice_index}
use Rattle.deadlock_triage.proofs.PatternLemmas.{cycle_first, pattern-from}
use Rattle.deadlock_triage.proofs.patterns.with_part.Goals as goal

pub returns-in-None-clause-none : goal.returns-in-None-clause-none
returns-in-None-clause-none c = absurd (c.in-None.ensures.none refl (cycle_first c.args.analysis.now.events c.args.first c.args.second c.requires.cycle))

pub returns-in-Some-clause-pattern : goal.returns-in-Some-clause-pattern
returns-in-Some-clause-pattern c =
    pattern-from c.args.analysis.now.events (slice_index c.args.places.now) c.args.first c.args.second c.args.one c.in-Some.two c.arranged.result c.requires.one c.in-Some.ensures.part
    c.arranged.ensures.parts c.arranged.ensures.arranged
