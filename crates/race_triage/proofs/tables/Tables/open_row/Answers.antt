use Rattle.std.proofs.Common.{◌≡◌, ◌≢◌, ℕ, List, Option, Some, IfSome, length, take, sym, ap, ◌∙◌, subst, arith, slice_index}
use Rattle.std.specs.List.{slice_index_or}
use Rattle.std.proofs.lemmas.Bool.{eqb-false, eqb-true}
use Rattle.race_groups.specs.least_pairs.Pairs.{IsFit, IsLeastPair}
use Rattle.race_groups.specs.declared.least_pairs.tries.Try.{Try}
use Rattle.race_groups.specs.declared.least_pairs.wanted.Wanted.TheVariants.{Open}
use Rattle.race_triage.specs.Verdicts.{AreMissed, AreOpenPairs, IsFirstFound, IsShownFirst}
use Rattle.race_triage.specs.declared.verdicts.Outcome.{Outcome}
use Rattle.race_triage.specs.declared.verdicts.Outcome.TheVariants.{Undecided}
use Rattle.race_triage.proofs.BudgetLemmas.{budget_few}
use Rattle.race_triage.proofs.OpenLemmas.{found_fits, least_open, none_left, some_try, tried_first, tried_open}
use Rattle.race_triage.proofs.VerdictLemmas.{IsVerdict-made, open_counts, open_is_not_apart, open_outcome, open_pair, undecided_apart}
use Rattle.race_triage.proofs.tables.Tables.open_row.Goals as goal

pub unreachable-requires : goal.unreachable-requires
unreachable-requires c =
    let r = c.args.self.now.indexed.now in
    let place = slice_index c.args.self.now.places.now in
    let l = c.args.least.now in
    let size : length c.as_slice-all.result.now ≡ length l.tries.items = ap (λ (ts : List Try). length ts) c.as_slice-all.ensures.value in
    let empty : length c.as_slice-all.result.now ≡ 0 = eqb-true (length c.as_slice-all.result.now) 0 (sym c.is_empty.ensures ∙ c.if-is_empty.true) in
    let none = none_left r place c.args.row c.requires.row c.args.effort.tries l c.requires.least c.requires.candidates (omega (arith, size, empty)) in
    omega (arith, none, c.requires.open_pairs)

pub first_shown-requires-clause-opens : goal.first_shown-requires-clause-opens
first_shown-requires-clause-opens c =
    let r = c.args.self.now.indexed.now in
    let place = slice_index c.args.self.now.places.now in
    let tries = c.args.effort.tries in
    let l = c.args.least.now in
    let same : c.beginning-tried.result.now ≡ take tries l.tries.items = c.beginning-tried.ensures ∙ ap (λ (ts : List Try). take tries ts) c.as_slice-all.ensures.value in
    subst (AreOpenPairs r) (sym same) (tried_open r place c.args.row c.requires.row tries l c.requires.least c.requires.candidates)

pub first_shown-requires-clause-few : goal.first_shown-requires-clause-few
first_shown-requires-clause-few c = budget_few c.args.self.now.indexed.now (slice_index c.args.self.now.places.now) c.args.budget c.requires.shared

pub returns-in-Some : goal.returns-in-Some
returns-in-Some c =
    let r = c.args.self.now.indexed.now in
    let place = slice_index c.args.self.now.places.now in
    let row = c.args.row in
    let tries = c.args.effort.tries in
    let l = c.args.least.now in
    let pair = c.in-Some.pair in
    let o = c.in-Some.outcome in
    let same : c.beginning-tried.result.now ≡ take tries l.tries.items = c.beginning-tried.ensures ∙ ap (λ (ts : List Try). take tries ts) c.as_slice-all.ensures.value in
    let shown : IsShownFirst r c.args.budget c.beginning-tried.result.now pair o =
    subst (λ (f : Option ((ℕ × ℕ) × Outcome)). IfSome f (λ s. IsShownFirst r c.args.budget c.beginning-tried.result.now s.0 s.1)) c.in-Some.is c.in_ok-pair.ensures.shown in
    let race = shown.race in
    let found = subst (λ (ts : List Try). IsFirstFound r.events c.args.budget ts pair) same shown.found in
    let fit = found_fits r place row c.requires.row tries l c.requires.least c.requires.candidates c.args.budget pair found in
    let first = tried_first r place row c.requires.row tries l c.requires.least c.requires.candidates in
    let v = c.of_pair.ensures in
    IsVerdict-made r place tries c.args.effort.apart row pair.1 pair.0 l.variables o c.of_pair.result v.first v.second v.row v.variables v.outcome
    (omega (arith, fit.pair.earlier, fit.pair.within)) fit.pair.within c.requires.row c.requires.there (λ _. (fit.pair, fit.at)) (open_outcome r pair.1 pair.0 row.counts o race)
    (open_counts r pair.1 pair.0 row.counts o race (c.requires.candidates, c.requires.open_pairs)) (λ same'. absurd (open_is_not_apart r pair.1 pair.0 row.counts o race same'))
    c.requires.least.variables
    (open_pair r pair.1 pair.0 row.counts place tries c.args.effort.apart row.places o race (record { tried = take tries l.tries.items; first = first; budget = c.args.budget; shared = c.requires.shared; found = found }))

pub returns-in_ok-tried-in-None : goal.returns-in_ok-tried-in-None
returns-in_ok-tried-in-None c =
    let r = c.args.self.now.indexed.now in
    let place = slice_index c.args.self.now.places.now in
    let row = c.args.row in
    let tries = c.args.effort.tries in
    let l = c.args.least.now in
    let value = c.as_slice-all.ensures.value in
    let size : length c.as_slice-all.result.now ≡ length l.tries.items = ap (λ (ts : List Try). length ts) value in
    let same : c.beginning-tried.result.now ≡ take tries l.tries.items = c.beginning-tried.ensures ∙ ap (λ (ts : List Try). take tries ts) value in
    let some : length c.as_slice-all.result.now ≢ 0 = eqb-false (length c.as_slice-all.result.now) 0 (sym c.is_empty.ensures ∙ c.if-is_empty.false) in
    let pair : ℕ × ℕ = (slice_index_or c.as_slice-all.result.now 0 some_try).pair in
    let least : IsLeastPair r place row.places Open (Some pair) =
    subst (λ (ts : List Try). IsLeastPair r place row.places Open (Some (slice_index_or ts 0 some_try).pair)) (sym value)
    (least_open r place row c.requires.row tries l c.requires.least c.requires.candidates some_try (omega (arith, size, some))) in
    let fit : IsFit r place row.places Open pair.1 pair.0 = least.0 in
    let count = c.in_ok-tried-in-None.tried in
    let long : length (take tries l.tries.items) ≡ count = ap (λ (ts : List Try). length ts) (sym same) ∙ sym c.in_ok-tried-in-None.ensures in
    let none = subst (λ (ts : List Try). (left : ℕ) × AreMissed r.events c.args.budget ts left) same (c.in_ok-pair.ensures.none c.in-None.is) in
    let first = tried_first r place row c.requires.row tries l c.requires.least c.requires.candidates in
    let v = c.of_pair-in-None.ensures in
    IsVerdict-made r place tries c.args.effort.apart row pair.1 pair.0 l.variables (Undecided count) c.of_pair-in-None.result v.first v.second v.row v.variables v.outcome
    (omega (arith, fit.pair.earlier, fit.pair.within)) fit.pair.within c.requires.row c.requires.there (λ _. (fit.pair, fit.at)) tt (c.requires.candidates, c.requires.open_pairs)
    (λ same'. absurd (undecided_apart count same')) c.requires.least.variables (least, record { tried = take tries l.tries.items; first = first; len = long; budget = c.args.budget; shared = c.requires.shared; left = none.0; none = none.1 })
