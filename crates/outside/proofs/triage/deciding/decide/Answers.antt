use Rattle.outside.proofs.triage.DecidedLemmas.{all_apart, all_decided, all_shown}
use Rattle.outside.proofs.triage.deciding.decide.Goals as goal

pub returns-clause-shown : goal.returns-clause-shown
returns-clause-shown g c = all_shown c.args.analysis.now _ c.triage.result c.triage.ensures.places c.triage.ensures.verdicts

pub returns-clause-apart : goal.returns-clause-apart
returns-clause-apart g c = all_apart c.args.analysis.now _ c.triage.result c.triage.ensures.places c.triage.ensures.verdicts

pub returns-clause-decided : goal.returns-clause-decided
returns-clause-decided g c =
    all_decided c.args.analysis.now _ c.triage.result c.triage.ensures.places c.triage.ensures.verdicts c.triage.ensures.complete
