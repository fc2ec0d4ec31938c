use Rattle.explain_report.proofs.verdict.append_told.Goals as goal

pub returns-in-Race : goal.returns-in-Race
returns-in-Race c = rw c.in-Race.is c.append_race.ensures
