use Rattle.std.proofs.Common.{refl}
use Rattle.deadlock_triage.proofs.PatternLemmas.{cycle_second}
use Rattle.deadlock_triage.proofs.patterns.pattern_of.Goals as goal

pub returns-in-None-clause-none : goal.returns-in-None-clause-none
returns-in-None-clause-none c = λ _ cycle. c.in-None.ensures.none refl (cycle_second c.args.analysis.now.events c.args.first c.args.second cycle)
