-- What the contract of triage says by numbers of locations, said by locations.
use Rattle.std.proofs.Common.{◌≡◌, ℕ, ◌<◌, ◌⊎◌, ◌==◌, ◌&&◌, true, List, All, length, refl, subst, inl, inr, arith, Result, Ok, Err, IfOk}
use Rattle.std.specs.List.{slice_index}
use Rattle.std.proofs.lemmas.Bool.{and_from, and_parts, eq-eqb, eqb-true, or_cases, or_left, or_right}
use Rattle.std.proofs.lemmas.List.Elements.{All-weaker, All-contains}
use Rattle.rapid_text.specs.Recording.{Recording}
use Rattle.race_groups.specs.Groups.{is_between}
use Rattle.race_triage.specs.Places.{AreNumbers}
use Rattle.race_triage.specs.Verdicts.{AreAllTold, IsOutcome, IsTold, IsVerdict}
use Rattle.race_triage.specs.declared.verdicts.Outcome.{Outcome}
use Rattle.race_triage.specs.declared.verdicts.Outcome.TheVariants.{Race, Undecided, Apart}
use Rattle.race_triage.specs.declared.verdicts.TriageRefusal.{TriageRefusal}
use Rattle.race_triage.specs.declared.verdicts.Verdict.{Verdict}
use Rattle.race_triage.specs.declared.verdicts.Verdicts.{Verdicts}
use Rattle.outside.specs.triage.Decided.{AreAtLocationsOf, AreDecided, IsNeverShownIfApart, IsShownIfRace}

-- c and d are p and q, in one order or the other
abbrev AreSame : ℕ → ℕ → ℕ → ℕ → Type 0
AreSame p q c d = ((c ≡ p) × (d ≡ q)) ⊎ ((c ≡ q) × (d ≡ p))

between_from : (p q c d : ℕ) → AreSame p q c d → is_between p q c d ≡ true
between_from p q c d (inl is) = or_left (c == p && d == q) (c == q && d == p) (and_from (c == p) (d == q) (eq-eqb c p is.0) (eq-eqb d q is.1))
between_from p q c d (inr is) = or_right (c == p && d == q) (c == q && d == p) (and_from (c == q) (d == p) (eq-eqb c q is.0) (eq-eqb d p is.1))

over : (p q c d e f : ℕ) → AreSame p q c d → AreSame c d e f → AreSame p q e f
over p q c d e f (inl a) (inl b) = inl (omega arith, omega arith)
over p q c d e f (inl a) (inr b) = inr (omega arith, omega arith)
over p q c d e f (inr a) (inl b) = inr (omega arith, omega arith)
over p q c d e f (inr a) (inr b) = inl (omega arith, omega arith)

back : (p q c d e f : ℕ) → AreSame p q c d → AreSame p q e f → AreSame c d e f
back p q c d e f (inl a) (inl b) = inl (omega arith, omega arith)
back p q c d e f (inl a) (inr b) = inr (omega arith, omega arith)
back p q c d e f (inr a) (inl b) = inr (omega arith, omega arith)
back p q c d e f (inr a) (inr b) = inl (omega arith, omega arith)

is_told : (o : Outcome) → IsTold true o
is_told (Race how events threads) = tt
is_told (Undecided tried) = tt
is_told Apart = refl

between_cases : (p q c d : ℕ) → is_between p q c d ≡ true → AreSame p q c d
between_cases p q c d h =
    elim (or_cases (c == p && d == q) (c == q && d == p) h) [
      | inl e ↦ let both = and_parts (c == p) (d == q) e in inl (eqb-true c p both.0, eqb-true d q both.1)
      | inr e ↦ let both = and_parts (c == q) (d == p) e in inr (eqb-true c q both.0, eqb-true d p both.1)
    ]

module _ (r : Recording) (numbers : List ℕ) (are : AreNumbers r numbers) (tries : ℕ) where
  abbrev place : ℕ → ℕ
  place = slice_index numbers

  pub shown : (v : Verdict) → IsVerdict r place tries true v → IsShownIfRace r.events v
  shown v is how events threads race =
      let by = subst (λ (o : Outcome). IsOutcome r v.first v.second o) race is.outcome in
      (by.0.schedule, by.0.reordering, by.0.shows)

  at : (v : Verdict) → IsVerdict r place tries true v → AreSame v.row.places.0 v.row.places.1 (place v.first) (place v.second)
  at v is = between_cases v.row.places.0 v.row.places.1 (place v.first) (place v.second) (is.pair (is_told v.outcome)).1

  -- events at the locations of two others have their numbers
  numbered : (a b c d : ℕ) → a < length r.events → b < length r.events → c < length r.events → d < length r.events
      → AreAtLocationsOf r a b c d → AreSame (place c) (place d) (place a) (place b)
  numbered a b c d la lb lc ld (inl e) = inl ((are.same a c la lc).1 e.0, (are.same b d lb ld).1 e.1)
  numbered a b c d la lb lc ld (inr e) = inr ((are.same a d la ld).1 e.0, (are.same b c lb lc).1 e.1)

  located : (a b c d : ℕ) → a < length r.events → b < length r.events → c < length r.events → d < length r.events
      → AreSame (place c) (place d) (place a) (place b) → AreAtLocationsOf r a b c d
  located a b c d la lb lc ld (inl e) = inl ((are.same a c la lc).0 e.0, (are.same b d lb ld).0 e.1)
  located a b c d la lb lc ld (inr e) = inr ((are.same a d la ld).0 e.0, (are.same b c lb lc).0 e.1)

  pub apart : (v : Verdict) → IsVerdict r place tries true v → IsNeverShownIfApart r v
  apart v is never a b la lb there shown =
      let p = v.row.places.0 in
      let q = v.row.places.1 in
      let same = over p q (place v.first) (place v.second) (place a) (place b) (at v is) (numbered a b v.first v.second la lb is.first is.second there) in
      is.never never a b shown.0 (between_from p q (place a) (place b) same) shown.1 shown.2

  pub decided : (vs : List Verdict) → All (IsVerdict r place tries true) vs → AreAllTold r.events place vs → AreDecided r vs
  decided vs all told a b lower within conflict =
      let found = told a b (record { conflict = conflict; earlier = lower; within = within }) in
      let v = found.0 in
      let is = All-contains (IsVerdict r place tries true) vs v all found.1 in
      let p = v.row.places.0 in
      let q = v.row.places.1 in
      let la : a < length r.events = omega (arith, lower, within) in
      let same = back p q (place v.first) (place v.second) (place a) (place b) (at v is) (between_cases p q (place a) (place b) found.2) in
      (v, found.1, located a b v.first v.second la within is.first is.second same)

module _ (r : Recording) (tries : ℕ) where
  abbrev pub AreRight : Verdicts → Type 0
  AreRight found = All (IsVerdict r (slice_index found.places.numbers.items) tries true) found.verdicts.items

  pub all_apart : (answer : Result Verdicts TriageRefusal) → IfOk answer (λ found. AreNumbers r found.places.numbers.items) → IfOk answer AreRight
      → IfOk answer (λ found. All (IsNeverShownIfApart r) found.verdicts.items)
  all_apart (Ok found) are right =
      let place : ℕ → ℕ = slice_index found.places.numbers.items in
      All-weaker (IsVerdict r place tries true) (IsNeverShownIfApart r) (λ v is. apart r found.places.numbers.items are tries v is) found.verdicts.items right
  all_apart (Err why) are right = tt

  pub all_shown : (answer : Result Verdicts TriageRefusal) → IfOk answer (λ found. AreNumbers r found.places.numbers.items) → IfOk answer AreRight
      → IfOk answer (λ found. All (IsShownIfRace r.events) found.verdicts.items)
  all_shown (Ok found) are right =
      let place : ℕ → ℕ = slice_index found.places.numbers.items in
      All-weaker (IsVerdict r place tries true) (IsShownIfRace r.events) (λ v is. shown r found.places.numbers.items are tries v is) found.verdicts.items right
  all_shown (Err why) are right = tt

  pub all_decided : (answer : Result Verdicts TriageRefusal) → IfOk answer (λ found. AreNumbers r found.places.numbers.items) → IfOk answer AreRight
      → IfOk answer (λ found. AreAllTold r.events (slice_index found.places.numbers.items) found.verdicts.items)
      → IfOk answer (λ found. AreDecided r found.verdicts.items)
  all_decided (Ok found) are right told = decided r found.places.numbers.items are tries found.verdicts.items right told
  all_decided (Err why) are right told = tt
