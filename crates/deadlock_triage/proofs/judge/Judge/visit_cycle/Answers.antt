use Rattle.std.proofs.Common.{◌≡◌, ◌+◌, ◌<◌, ◌∙◌, ℕ, List, length, slice_index, set, subst, sym, arith}
use Rattle.std.proofs.lemmas.Option.{get_or_from_slice_get, slice_get_within}
use Rattle.deadlock_triage.specs.Patterns.{HasPattern}
use Rattle.deadlock_triage.specs.Rows.{AreRows, IsNext}
use Rattle.deadlock_triage.specs.declared.outcomes.Verdict.{Verdict}
use Rattle.deadlock_triage.proofs.NestLemmas.{request-within}
use Rattle.deadlock_triage.proofs.VisitLemmas.{visit-set}
use Rattle.deadlock_triage.proofs.judge.Judge.visit_cycle.Goals as goal

pub next-requires-clause-first : goal.next-requires-clause-first
next-requires-clause-first c = request-within c.args.self.now.analysis.now c.args.start.first c.requires.start.pair.first

pub next-requires-clause-second : goal.next-requires-clause-second
next-requires-clause-second c = request-within c.args.self.now.analysis.now c.args.start.second c.requires.start.pair.second

pub index_mut-requires : goal.index_mut-requires
index_mut-requires c =
    let row = c.in_ok-at.ensures.at in
    let vs : List Verdict = c.row_of.new.rows.verdicts.items in
    let within : c.in_ok-at.at < length vs = slice_get_within vs c.in_ok-at.at row.0 row.1 in
    omega (arith, within)

pub returns : goal.returns
returns c =
    let j = c.args.self.now in
    let T = j.analysis.now.events in
    let place : ℕ → ℕ = slice_index j.places.now in
    let start = c.args.start in
    let at : ℕ = c.in_ok-at.at in
    let rows = c.row_of.new.rows in
    let vs : List Verdict = rows.verdicts.items in
    let row = c.in_ok-at.ensures.at in
    let read : c.index.result.now ≡ row.0 = c.index.ensures ∙ get_or_from_slice_get vs at row.0 c.index.result.now row.1 in
    let has : HasPattern T place start.first start.second row.0.pattern = subst (HasPattern T place start.first start.second) (sym row.2) c.requires.start.pattern in
    let next : IsNext T start.first start.second row.0 c.in_ok-next.next = subst (λ (old : Verdict). IsNext T start.first start.second old c.in_ok-next.next) read c.in_ok-next.ensures in
    visit-set j.analysis.now place j.nested.now j.is_whole c.args.earlier c.args.later rows.patterns.keys vs c.in_ok-at.ensures.rows at start.first start.second row.0 c.in_ok-next.next
    row.1 c.requires.first c.requires.second c.requires.start.pair has next
