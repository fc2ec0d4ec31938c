-- The test of a race tells candidates; which step of some is the first that races.
use Rattle.std.proofs.Common.{◌≡◌, ◌↔◌, ℕ, ◌<◌, ◌≤◌, ◌+◌, Bool, true, false, not, cond, List, [], ◌∷◌, ◌++◌, length, get_or, take, drop, flat_map, codes, decimal, Option, Some, None, refl, sym, ap, ◌∙◌, true≢false, arith, inl, inr}
use Rattle.std.proofs.lemmas.Bool.{and_from, and_parts, cases_Bool, lt-ltb, ltb-true}
use Rattle.std.specs.List.{find}
use Rattle.std.proofs.lemmas.List.{append-nil, take-append-drop, take_more}
use Rattle.std.proofs.lemmas.List.Folds.{find-append}
use Rattle.std.proofs.lemmas.Grind.{flat_map-append}
use Rattle.std.proofs.lemmas.Option.{slice_get_within}
use Rattle.std.specs.Option.{option_or}
use Rattle.rapid_text.specs.declared.event.Event.{Event}
use Rattle.trace_rules.specs.Rules.{IsDisciplined}
use Rattle.event_index.specs.Lookups.{base_of}
use Rattle.event_index.proofs.CallerLemmas.{Decides-is_conflict}
use Rattle.shb_clocks.specs.Candidates.{IsApart, IsCandidate, IsCandidatePair}
use Rattle.shb_clocks.specs.Known.{is_shb_before}
use Rattle.shb_clocks.proofs.CallerLemmas.{is_shb_before-tells}
use Rattle.explain_report.specs.Chains.{CandidatesAreTold, is_apart_from, is_candidate, is_raced, race_note, raced_step, steps_of}
use Rattle.must_order.specs.declared.chains.Chain.{Chain}
use Rattle.must_order.specs.declared.chains.Step.{Step}

module _ (T : List Event) (rules : IsDisciplined T) (a : ℕ) where
  apart_from : (b : ℕ) (o : Option ℕ) → base_of T b ≡ o → is_apart_from T a o ≡ true → IsApart T a b
  apart_from b None of test c e before = absurd (cc (sym of ∙ e))
  apart_from b (Some k) of test c e before =
      let same : k ≡ c = cc (sym of ∙ e) in
      let found : is_shb_before T a k ≡ true = (is_shb_before-tells T rules a k).1 (rw same before) in
      absurd (true≢false (sym test ∙ ap not found))

  from_apart : (b : ℕ) (o : Option ℕ) → base_of T b ≡ o → IsApart T a b → is_apart_from T a o ≡ true
  from_apart b None of apart = refl
  from_apart b (Some k) of apart =
      elim (cases_Bool (is_shb_before T a k)) [
        | inl so ↦ absurd (apart k of ((is_shb_before-tells T rules a k).0 so))
        | inr no_so ↦ ap not no_so
      ]

  -- the test tells candidates
  pub is_candidate-tells : (b : ℕ) → (is_candidate T a b ≡ true) ↔ IsCandidate T a b
  is_candidate-tells b = (
    λ h.
        let one = and_parts _ _ h in
        let two = and_parts _ _ one.1 in
        record { conflict = (Decides-is_conflict T a b).0 one.0; earlier = ltb-true a b two.0; apart = apart_from b (base_of T b) refl two.1 },
    λ is. and_from _ _ ((Decides-is_conflict T a b).1 is.conflict) (and_from _ _ (lt-ltb a b is.earlier) (from_apart b (base_of T b) refl is.apart)),
  )

pub candidates_told : CandidatesAreTold
candidates_told T rules a b = is_candidate-tells T rules a b

-- two tests that agree are one
pub same_test : (p q : Bool) → (p ≡ true → q ≡ true) → (q ≡ true → p ≡ true) → p ≡ q
same_test true q there back = sym (there refl)
same_test false true there back = absurd (true≢false (sym (back refl)))
same_test false false there back = refl

-- of two events in their order, one question is left
pub candidate_test : (T : List Event) → IsDisciplined T → (a b : ℕ) → a < b → (p : Bool) → (p ≡ true) ↔ IsCandidatePair T a b → p ≡ is_candidate T a b
candidate_test T rules a b lt p tells =
    same_test p (is_candidate T a b)
    (λ so. elim (tells.0 so) [ inl is ↦ (is_candidate-tells T rules a b).1 is | inr is ↦ absurd (omega (arith, is.earlier)) ])
    (λ so. tells.1 (inl ((is_candidate-tells T rules a b).0 so)))

-- no candidate: the first event does not come first
pub not_earlier : (T : List Event) → IsDisciplined T → (a b : ℕ) → b ≤ a → is_candidate T a b ≡ false
not_earlier T rules a b le =
    elim (cases_Bool (is_candidate T a b)) [ inl so ↦ absurd (omega (arith, ((is_candidate-tells T rules a b).0 so).earlier)) | inr none ↦ none ]

-- no candidate: the trace has no such event
pub not_there : (T : List Event) → IsDisciplined T → (a b : ℕ) → length T ≤ b → is_candidate T a b ≡ false
not_there T rules a b le =
    elim (cases_Bool (is_candidate T a b)) [
      | inl so ↦ absurd (omega (arith, slice_get_within T b _ ((is_candidate-tells T rules a b).0 so).conflict.second))
      | inr none ↦ none
    ]

-- the first of a list that passes a test, one element more at a time
module _ {X : Type 0} (p : X → Bool) where
  find-whole : (xs : List X) (n : ℕ) (x : X) → find p (take n xs) ≡ Some x → Some x ≡ find p xs
  find-whole xs n x found =
      sym (ap (find p) (sym (take-append-drop n xs)) ∙ find-append p (take n xs) (drop n xs) ∙ ap (λ o. option_or o (find p (drop n xs))) found)

  module _ (xs : List X) (i : ℕ) (d : X) (lt : i < length xs) (none : find p (take i xs) ≡ None) where
    find-more : find p (take (i + 1) xs) ≡ cond (p (get_or xs i d)) (Some (get_or xs i d)) None
    find-more =
        ap (find p) (take_more xs i d lt) ∙ find-append p (take i xs) (get_or xs i d ∷ []) ∙ ap (λ o. option_or o (find p (get_or xs i d ∷ []))) none

    pub find-past : p (get_or xs i d) ≡ false → find p (take (i + 1) xs) ≡ None
    find-past fails = find-more ∙ ap (λ b. cond b (Some (get_or xs i d)) None) fails

    pub find-here : p (get_or xs i d) ≡ true → Some (get_or xs i d) ≡ find p xs
    find-here so = find-whole xs (i + 1) (get_or xs i d) (find-more ∙ ap (λ b. cond b (Some (get_or xs i d)) None) so)

-- the same of the steps of chains, one chain more at a time
module _ (T : List Event) (cs : List Chain) (i : ℕ) (d : Chain) (lt : i < length cs) (none : raced_step T (take i cs) ≡ None) where
  raced-more : raced_step T (take (i + 1) cs) ≡ find (is_raced T) (get_or cs i d).steps.items
  raced-more =
      ap (raced_step T) (take_more cs i d lt)
      ∙ ap (find (is_raced T)) (flat_map-append (λ (c : Chain). c.steps.items) (take i cs) (get_or cs i d ∷ []))
      ∙ find-append (is_raced T) (steps_of (take i cs)) (steps_of (get_or cs i d ∷ []))
      ∙ ap (λ o. option_or o (find (is_raced T) (steps_of (get_or cs i d ∷ [])))) none
      ∙ ap (find (is_raced T)) (append-nil (get_or cs i d).steps.items)

  pub raced-past : find (is_raced T) (get_or cs i d).steps.items ≡ None → raced_step T (take (i + 1) cs) ≡ None
  raced-past fails = raced-more ∙ fails

  pub raced-here : (s : Step) → find (is_raced T) (get_or cs i d).steps.items ≡ Some s → Some s ≡ raced_step T cs
  raced-here s found =
      let whole : raced_step T (take (i + 1) cs ++ drop (i + 1) cs) ≡ Some s =
      ap (find (is_raced T)) (flat_map-append (λ (c : Chain). c.steps.items) (take (i + 1) cs) (drop (i + 1) cs))
      ∙ find-append (is_raced T) (steps_of (take (i + 1) cs)) (steps_of (drop (i + 1) cs))
      ∙ ap (λ o. option_or o (find (is_raced T) (steps_of (drop (i + 1) cs)))) (raced-more ∙ found) in
      sym (ap (raced_step T) (sym (take-append-drop (i + 1) cs)) ∙ whole)

-- the note, where the two race
pub noted :
    (T : List Event) (a b : ℕ) (old new : List ℕ) → is_candidate T a b ≡ true
    → new ≡ old ++ (codes " (these two race: explain " ++ decimal a ++ codes " " ++ decimal b ++ codes ")") → new ≡ old ++ race_note T a b
noted T a b old new so e =
    e ∙ ap (λ (t : List ℕ). old ++ t) (sym (ap (λ s. cond s (codes " (these two race: explain " ++ decimal a ++ codes " " ++ decimal b ++ codes ")") []) so))
