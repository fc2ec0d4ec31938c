use Rattle.race_triage.proofs.KnownLemmas.{if_none}
use Rattle.race_triage.proofs.known.pair_of.Goals as goal

pub returns-in_default-clause-none : goal.returns-in_default-clause-none
returns-in_default-clause-none c p q pair = if_none c.in_ok-one.field-0 c.in_ok-one.ensures.none c.in_default.is pair.0 pair.2

pub returns-in_default-2-clause-none : goal.returns-in_default-2-clause-none
returns-in_default-2-clause-none c p q pair = if_none c.in_ok-other.field-0 c.in_ok-other.ensures.none c.in_default-2.is pair.1 pair.3
