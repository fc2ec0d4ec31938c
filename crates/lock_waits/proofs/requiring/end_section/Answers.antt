use Rattle.std.proofs.Common.{refl, sym}
use Rattle.lock_waits.specs.Gathering.{free, joined}
use Rattle.lock_waits.proofs.GatherLemmas.{fails}
use Rattle.lock_waits.proofs.requiring.end_section.Goals as goal

pub returns-then-not-is_foreign-clause-ending : goal.returns-then-not-is_foreign-clause-ending
returns-then-not-is_foreign-clause-ending c _ = free (fails _ _ c.is_foreign.ensures c.if-not-is_foreign.true) (λ t. refl)

pub returns-in-None-clause-barred : goal.returns-in-None-clause-barred
returns-in-None-clause-barred c _ = (c.is_foreign.ensures.0 c.if-not-is_foreign.false, sym c.in-None.ensures.section)

pub returns-in-Some-clause-ending : goal.returns-in-Some-clause-ending
returns-in-Some-clause-ending c _ = joined c.in-Some.end (c.is_foreign.ensures.0 c.if-not-is_foreign.false) (sym c.in-Some.ensures.section) c.raise.ensures.joins
