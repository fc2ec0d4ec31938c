use Rattle.race_triage.proofs.verdicts.triage.Goals as goal

pub returns-clause-totals : goal.returns-clause-totals
returns-clause-totals g c = λ t are.
    let r = c.args.analysis.now in
    let law = c.totals_are_of_the_trace.ensures in
    let of = c.len-len.ensures in
    let is = c.in_ok-verdicts.ensures in
    law r _ c.args.effort.tries c.args.effort.apart c.in_ok-verdicts.verdicts.items t (simp c.indexed.ensures at of.well_formed) (simp c.indexed.ensures at of.disciplined) is.verdicts is.complete is.once is.few are
