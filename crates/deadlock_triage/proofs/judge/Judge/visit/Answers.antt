use Rattle.std.proofs.Common.{◌≡◌, ℕ, length, get_or, slice_index, Some, ap, sym, ◌∙◌, arith, refl, subst}
use Rattle.std.specs.List.{slice_get}
use Rattle.std.proofs.lemmas.Option.{slice_get-get_or}
use Rattle.deadlock_triage.specs.Patterns.{HasPattern}
use Rattle.deadlock_triage.proofs.VisitLemmas.{fresh_verdict, nested_within, pair_of, visit-none}
use Rattle.deadlock_triage.proofs.judge.Judge.visit.Goals as goal

pub pattern_of-requires-clause-first : goal.pattern_of-requires-clause-first
pattern_of-requires-clause-first c =
    nested_within c.args.self.now.analysis.now c.args.self.now.nested.now c.args.earlier c.requires.judge.nested (omega (arith, c.requires.earlier, c.requires.later))

pub pattern_of-requires-clause-second : goal.pattern_of-requires-clause-second
pattern_of-requires-clause-second c =
    nested_within c.args.self.now.analysis.now c.args.self.now.nested.now c.args.later c.requires.judge.nested c.requires.later

pub returns-in-None : goal.returns-in-None
returns-in-None c =
    let j = c.args.self.now in
    let nested = j.nested.now in
    visit-none j.analysis.now (slice_index j.places.now) nested j.is_whole c.args.earlier c.args.later c.args.rows.now.patterns.keys c.args.rows.now.verdicts.items c.requires.rows
    (get_or nested c.args.earlier 0) (get_or nested c.args.later 0) (slice_get-get_or nested c.args.earlier 0 (omega (arith, c.requires.earlier, c.requires.later)))
    (slice_get-get_or nested c.args.later 0 c.requires.later) (c.in-None.ensures.none refl)

pub visit_cycle-requires-clause-start : goal.visit_cycle-requires-clause-start
visit_cycle-requires-clause-start c =
    let j = c.args.self.now in
    let nested = j.nested.now in
    let x : ℕ = get_or nested c.args.earlier 0 in
    let y : ℕ = get_or nested c.args.later 0 in
    let first = slice_get-get_or nested c.args.earlier 0 (omega (arith, c.requires.earlier, c.requires.later)) in
    let second = slice_get-get_or nested c.args.later 0 c.requires.later in
    let start = c.fresh-start.ensures in
    fresh_verdict j.analysis.now (slice_index j.places.now) j.is_whole x y c.fresh-start.result
    (pair_of j.analysis.now nested c.args.earlier c.args.later x y c.requires.judge.nested c.requires.earlier first second c.in-Some.ensures.cycle)
    (subst (HasPattern j.analysis.now.events (slice_index j.places.now) x y) (sym start.pattern) c.in-Some.ensures.pattern) start.first start.second start.outcome

pub visit_cycle-requires-clause-first : goal.visit_cycle-requires-clause-first
visit_cycle-requires-clause-first c =
    slice_get-get_or c.args.self.now.nested.now c.args.earlier 0 (omega (arith, c.requires.earlier, c.requires.later)) ∙ ap Some (sym c.fresh-start.ensures.first)

pub visit_cycle-requires-clause-second : goal.visit_cycle-requires-clause-second
visit_cycle-requires-clause-second c = slice_get-get_or c.args.self.now.nested.now c.args.later 0 c.requires.later ∙ ap Some (sym c.fresh-start.ensures.second)
