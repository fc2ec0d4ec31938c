use Rattle.std.proofs.Common.{inr, subst}
use Rattle.explain_report.specs.findings.Findings.{IsFinding, IsNeverShown}
use Rattle.explain_report.specs.declared.findings.finding.Finding.{Finding}
use Rattle.race_page.specs.Pages.{HasNoSchedule}
use Rattle.race_page.proofs.schedules.write_finding.Goals as goal

pub write_plain-requires-clause-plain : goal.write_plain-requires-clause-plain
write_plain-requires-clause-plain c =
    let T = c.args.page.now.trace.events in
    inr (HasNoSchedule.never (subst (λ (f : Finding). IsNeverShown T c.args.shown.first c.args.shown.second f) c.in-Forced.is c.requires.never))

pub write_plain-requires-in-Guarded-clause-plain : goal.write_plain-requires-in-Guarded-clause-plain
write_plain-requires-in-Guarded-clause-plain c =
    let T = c.args.page.now.trace.events in
    inr (HasNoSchedule.never (subst (λ (f : Finding). IsNeverShown T c.args.shown.first c.args.shown.second f) c.in-Guarded.is c.requires.never))

pub write_plain-requires-in-Contradicted-clause-plain : goal.write_plain-requires-in-Contradicted-clause-plain
write_plain-requires-in-Contradicted-clause-plain c =
    let T = c.args.page.now.trace.events in
    inr (HasNoSchedule.never (subst (λ (f : Finding). IsNeverShown T c.args.shown.first c.args.shown.second f) c.in-Contradicted.is c.requires.never))

pub write_plain-requires-in-Undecided-clause-plain : goal.write_plain-requires-in-Undecided-clause-plain
write_plain-requires-in-Undecided-clause-plain c =
    let r = c.args.page.now.trace in
    let found = subst (λ (f : Finding). IsFinding r c.args.shown.first c.args.shown.second f) c.in-Undecided.is c.requires.finding in
    inr (HasNoSchedule.unfound found.1 found.2)
