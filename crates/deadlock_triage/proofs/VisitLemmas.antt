-- One more pair of requests is visited.
use Rattle.std.proofs.Common.{◌≡◌, ◌≢◌, ◌⊎◌, ℕ, ◌+◌, ◌<◌, Bool, true, false, List, [], ◌∷◌, ◌++◌, AllPairs, Vec, length, set, get_or, slice_index, Some, refl, sym, ap, ◌∙◌, subst, arith, inl, inr}
use Rattle.std.specs.List.{slice_get}
use Rattle.std.specs.declared.alloc.Global.{Global}
use Rattle.std.proofs.lemmas.List.Elements.{Contains-get_or}
use Rattle.std.proofs.lemmas.Option.{same_Some, get_or_from_slice_get, slice_get_within}
use Rattle.rapid_text.specs.Recording.{Recording}
use Rattle.rapid_text.specs.declared.event.Event.{Event}
use Rattle.lock_waits.specs.Waits.{IsCycle}
use Rattle.deadlock_triage.specs.Patterns.{HasPattern, locations_of}
use Rattle.deadlock_triage.specs.Requests.{AreNested, IsPair}
use Rattle.deadlock_triage.specs.Rows.{AreRows, IsAdded, IsNext, IsRowAt, first_outcome, text_at}
use Rattle.deadlock_triage.specs.Verdicts.{IsNeverShown, IsOutcome, IsVerdict}
use Rattle.deadlock_triage.specs.declared.outcomes.Outcome.{Outcome}
use Rattle.deadlock_triage.specs.declared.outcomes.Outcome.TheVariants.{Apart, Undecided}
use Rattle.deadlock_triage.specs.declared.outcomes.Verdict.{Verdict}
use Rattle.deadlock_triage.specs.declared.patterns.Pattern.{Pattern}
use Rattle.deadlock_triage.proofs.ListLemmas.{Contains-at, get_last}
use Rattle.deadlock_triage.proofs.NestLemmas.{request-within}
use Rattle.deadlock_triage.proofs.RowLemmas.{row-at, rows-added, rows-set, rows-skip}

-- two nested requests in a cycle are a pair
pub pair_of : (r : Recording) (nested : List ℕ) (i j x y : ℕ) → AreNested r nested → i < j → slice_get nested i ≡ Some x → slice_get nested j ≡ Some y
    → IsCycle r.events (x ∷ y ∷ []) → IsPair r x y
pair_of r nested i j x y all lower first second cycle =
    let rises = all.rising i j 0 lower (slice_get_within nested j y second) in
    record {
      earlier = omega (arith, rises, get_or_from_slice_get nested i x 0 first, get_or_from_slice_get nested j y 0 second);
      first = (all.are x (Contains-at nested i x first)).request;
      second = (all.are y (Contains-at nested j y second)).request;
      cycle = cycle;
    }

pub nested_within : (r : Recording) (nested : List ℕ) (k : ℕ) → AreNested r nested → k < length nested → get_or nested k 0 < length r.events
nested_within r nested k all lt =
    request-within r (get_or nested k 0) (all.are (get_or nested k 0) (Contains-get_or nested k 0 lt)).request

-- the first outcome says nothing of the two requests
outcome_says : (T : List Event) (e d : ℕ) (whole : Bool) (o : Outcome) → o ≡ first_outcome whole → IsOutcome T e d o
outcome_says T e d true o is = subst (IsOutcome T e d) (sym is) tt
outcome_says T e d false o is = subst (IsOutcome T e d) (sym is) tt

outcome_whole : (whole : Bool) (o : Outcome) → o ≡ first_outcome whole → o ≡ Apart → whole ≡ true
outcome_whole true o is apart = refl
outcome_whole false o is apart = let two : Undecided 0 ≡ Apart = sym is ∙ apart in cc

pub fresh_verdict : (r : Recording) (place : ℕ → ℕ) (whole : Bool) (x y : ℕ) (v : Verdict) → IsPair r x y → HasPattern r.events place x y v.pattern
    → v.first ≡ x → v.second ≡ y → v.outcome ≡ first_outcome whole → IsVerdict r place v
fresh_verdict r place whole x y v pair has first second outcome = record {
  pair = subst (λ (a : ℕ). IsPair r a v.second) (sym first) (subst (λ (b : ℕ). IsPair r x b) (sym second) pair);
  pattern = subst (λ (a : ℕ). HasPattern r.events place a v.second v.pattern) (sym first) (subst (λ (b : ℕ). HasPattern r.events place x b v.pattern) (sym second) has);
  outcome = outcome_says r.events v.first v.second whole v.outcome outcome;
}

module _ (r : Recording) (place : ℕ → ℕ) (nested : List ℕ) (whole : Bool) (i j : ℕ) (keys : List (Vec ℕ Global)) (vs : List Verdict) (rows : AreRows r place nested whole i j keys vs) where
  pub visit-none : (x y : ℕ) → slice_get nested i ≡ Some x → slice_get nested j ≡ Some y → ¬ IsCycle r.events (x ∷ y ∷ []) → AreRows r place nested whole (i + 1) j keys vs
  visit-none x y first second none = rows-skip r place nested whole i j keys vs rows x y first second (λ pair. none pair.cycle)

  -- a text that is there has an index within the keys
  pub known-row : (at : ℕ) (v : Verdict) → text_at keys at ≡ Some (locations_of v.pattern) → at < length keys → IsRowAt vs v.pattern at
  known-row = row-at r place nested whole i j keys vs rows

  pub added-rows : (v : Verdict) (longer : List (Vec ℕ Global)) → IsVerdict r place v → v.outcome ≡ first_outcome whole
      → ((k : ℕ) → text_at keys k ≢ Some (locations_of v.pattern)) → IsAdded (locations_of v.pattern) keys longer → AreRows r place nested whole i j longer (vs ++ v ∷ [])
  added-rows v longer fresh outcome absent added =
      rows-added r place nested whole i j keys vs rows v fresh (outcome_whole whole v.outcome outcome) absent longer added

  pub visit-set : (at x y : ℕ) (old new : Verdict) → slice_get vs at ≡ Some old → slice_get nested i ≡ Some x → slice_get nested j ≡ Some y → IsPair r x y
      → HasPattern r.events place x y old.pattern → IsNext r.events x y old new → AreRows r place nested whole (i + 1) j keys (set vs at new)
  visit-set at x y old new is first second pair has next =
      let was : IsVerdict r place old = rows.verdicts at old is in
      let here : HasPattern r.events place x y new.pattern = subst (HasPattern r.events place x y) (sym next.pattern) has in
      let there : HasPattern r.events place old.first old.second new.pattern = subst (HasPattern r.events place old.first old.second) (sym next.pattern) was.pattern in
      let outcome : IsOutcome r.events new.first new.second new.outcome = next.outcome was.outcome in
      let fresh : IsVerdict r place new =
      elim next.named [
        | inl same ↦ record {
          pair = subst (λ (a : ℕ). IsPair r a new.second) (sym same.0) (subst (λ (b : ℕ). IsPair r old.first b) (sym same.1) was.pair);
          pattern = subst (λ (a : ℕ). HasPattern r.events place a new.second new.pattern) (sym same.0) (subst (λ (b : ℕ). HasPattern r.events place old.first b new.pattern) (sym same.1) there);
          outcome = outcome;
        }
        | inr same ↦ record {
          pair = subst (λ (a : ℕ). IsPair r a new.second) (sym same.0) (subst (λ (b : ℕ). IsPair r x b) (sym same.1) pair);
          pattern = subst (λ (a : ℕ). HasPattern r.events place a new.second new.pattern) (sym same.0) (subst (λ (b : ℕ). HasPattern r.events place x b new.pattern) (sym same.1) here);
          outcome = outcome;
        }
      ] in
      rows-set r place nested whole i j keys vs rows at old new is next.pattern fresh x y first second here next.apart

-- the row of a pattern that was added
pub added-row : (vs : List Verdict) (v : Verdict) → IsRowAt (vs ++ v ∷ []) v.pattern (length vs)
added-row vs v = (v, get_last vs v, refl)

-- an outcome that does not change
pub next-same : (T : List Event) (e d : ℕ) (v : Verdict) → v.outcome ≢ Apart → IsNext T e d v v
next-same T e d v not_apart = record {
  pattern = refl;
  named = inl (refl, refl);
  outcome = λ o. o;
  apart = λ is. absurd (not_apart is);
}
