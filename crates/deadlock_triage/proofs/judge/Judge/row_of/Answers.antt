use Rattle.std.proofs.Common.{◌≡◌, ℕ, List, [], ◌∷◌, ◌++◌, length, slice_index, subst, sym, arith}
use Rattle.deadlock_triage.specs.Patterns.{locations_of}
use Rattle.deadlock_triage.specs.Rows.{AreRows, IsRowAt}
use Rattle.deadlock_triage.specs.declared.outcomes.Verdict.{Verdict}
use Rattle.deadlock_triage.proofs.KeyLemmas.{text-within}
use Rattle.deadlock_triage.proofs.VisitLemmas.{added-row, added-rows, known-row}
use Rattle.deadlock_triage.proofs.judge.Judge.row_of.Goals as goal

pub returns-in-Some-clause-at : goal.returns-in-Some-clause-at
returns-in-Some-clause-at c =
    let j = c.args.self.now in
    let keys = c.args.rows.now.patterns.keys in
    known-row j.analysis.now (slice_index j.places.now) j.nested.now j.is_whole c.args._earlier c.args._later keys c.args.rows.now.verdicts.items c.requires.rows c.in-Some.at c.args.start
    c.in-Some.ensures.some (text-within keys c.in-Some.at (locations_of c.args.start.pattern) c.in-Some.ensures.some)

pub returns-clause-at : goal.returns-clause-at
returns-clause-at c =
    let vs = c.args.rows.now.verdicts.items in
    let v = c.args.start in
    let at : c.len-at.result ≡ length vs = omega (arith, c.len-at.ensures) in
    subst (λ (xs : List Verdict). IsRowAt xs v.pattern c.len-at.result) (sym c.in_ok-push.ensures.items)
    (subst (IsRowAt (vs ++ v ∷ []) v.pattern) (sym at) (added-row vs v))

pub returns-clause-rows : goal.returns-clause-rows
returns-clause-rows c =
    let j = c.args.self.now in
    let place : ℕ → ℕ = slice_index j.places.now in
    let keys = c.add.new.patterns.keys in
    subst (λ (xs : List Verdict). AreRows j.analysis.now place j.nested.now j.is_whole c.args._earlier c.args._later keys xs) (sym c.in_ok-push.ensures.items)
    (added-rows j.analysis.now place j.nested.now j.is_whole c.args._earlier c.args._later c.args.rows.now.patterns.keys c.args.rows.now.verdicts.items c.requires.rows
    c.args.start keys c.requires.start c.requires.outcome (c.in_default.ensures.none search) c.in_ok-add.ensures)
