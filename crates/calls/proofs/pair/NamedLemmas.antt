-- The marks of events, and the pair of a verdict.
use Rattle.std.proofs.Common.{◌≡◌, ℕ, ◌<◌, Bool, true, false, List, length, slice_index, Option, Some, None, Result, Ok, Err, IfOk, refl, subst, sym, ◌∙◌, arith, inl, inr}
use Rattle.std.proofs.lemmas.Bool.{cases_lt}
use Rattle.std.proofs.lemmas.List.{get_or_past}
use Rattle.std.proofs.lemmas.List.FromFn.{get_or-map-range_with_len, length-map-range_with_len}
use Rattle.std.specs.List.{slice_index_or}
use Rattle.std.specs.Option.{IfSome}
use Rattle.rapid_text.specs.Recording.{Recording}
use Rattle.race_groups.specs.least_pairs.Pairs.{IsPair}
use Rattle.race_triage.specs.Verdicts.{IsTold, IsVerdict}
use Rattle.race_triage.specs.declared.verdicts.Outcome.{Outcome}
use Rattle.race_triage.specs.declared.verdicts.Outcome.TheVariants.{Race, Undecided, Apart}
use Rattle.race_triage.specs.declared.verdicts.Verdict.{Verdict}
use Rattle.rapid_text.specs.declared.memory.OutOfMemory.{OutOfMemory}
use Rattle.explain_report.specs.places.Accesses.{IsAtOnePlace}
use Rattle.calls.specs.pair.Named.{AreSame, IsMeant, IsPlaced, IsReported, mark, marks_of}

mark_small : (b c : Bool) → mark b c < 3
mark_small true c = omega arith
mark_small false true = omega arith
mark_small false false = omega arith

module _ (one other : List Bool) where
  abbrev at : ℕ → ℕ
  at e = mark (slice_index_or one e false) (slice_index_or other e false)

  pub length-marks_of : length (marks_of one other) ≡ length one
  length-marks_of = length-map-range_with_len at 0 (length one)

  -- a mark is 0, 1 or 2
  pub few_marks : (e : ℕ) → slice_index (marks_of one other) e < 3
  few_marks e = elim (cases_lt e (length one)) [
    | inl lt ↦
        let is = get_or-map-range_with_len at 0 (length one) e e 0 lt (omega arith) in
        subst (λ (n : ℕ). n < 3) (sym is) (mark_small (slice_index_or one e false) (slice_index_or other e false))
    | inr past ↦
        let is = get_or_past (marks_of one other) e 0 (omega (arith, past, length-marks_of)) in
        omega (arith, is)
  ]

all_told : (o : Outcome) → IsTold true o
all_told (Race how events threads) = tt
all_told (Undecided tried) = tt
all_told Apart = refl

-- the two events of a verdict conflict
pub verdict_pair : (r : Recording) (place : ℕ → ℕ) (tries : ℕ) (v : Verdict) → IsVerdict r place tries true v → IsPair r.events v.first v.second
verdict_pair r place tries v is = (is.pair (all_told v.outcome)).0

-- lists of one length that agree up to it agree everywhere
pub same_at : (xs ys : List Bool) → length xs ≡ length ys → ((k : ℕ) → k < length xs → slice_index_or xs k false ≡ slice_index_or ys k false) → AreSame xs ys
same_at xs ys len agree e = elim (cases_lt e (length xs)) [
  | inl lt ↦ agree e lt
  | inr past ↦ get_or_past xs e false past ∙ sym (get_or_past ys e false (omega (arith, past, len)))
]

-- what is reported of these marks is the pair of the two names
pub placed : (r : Recording) (is_event : Bool) (one other : List Bool) → IsAtOnePlace r one → IsAtOnePlace r other
    → (marks : ℕ × ℕ) → IsMeant is_event one other marks → (xs : List ℕ) → xs ≡ marks_of one other → (result : Result (Option (ℕ × ℕ)) OutOfMemory)
    → IfOk result (λ found. IfSome found (λ p. IsReported r (slice_index xs) marks p.0 p.1)) → IfOk result (λ found. IfSome found (λ p. IsPlaced r is_event one other p.0 p.1))
placed r is_event one other here there marks meant xs are (Ok (Some p)) told = record {
  one_place = here;
  other_place = there;
  marks = marks;
  meant = meant;
  reported = subst (λ (ys : List ℕ). IsReported r (slice_index ys) marks p.0 p.1) are told;
}
placed r is_event one other here there marks meant xs are (Ok None) told = tt
placed r is_event one other here there marks meant xs are (Err refused) told = tt
