-- A look for the first or the last event that passes a test, one event further.
use Rattle.std.proofs.Common.{◌≡◌, ℕ, zero, suc, ◌+◌, ◌-◌, ◌<◌, ◌≤◌, Bool, true, false, cond, List, [], ◌∷◌, ◌++◌, reverse, Some, None, refl, sym, ap, ◌∙◌, arith, add-one, inl, inr, le_refl}
use Rattle.std.specs.List.{find, filter, range_with_len}
use Rattle.std.specs.Option.{option_or}
use Rattle.std.proofs.lemmas.List.{reverse-append}
use Rattle.std.proofs.lemmas.List.Elements.{filter-append}
use Rattle.std.proofs.lemmas.List.Folds.{find-append}
use Rattle.std.proofs.lemmas.List.FromFn.{length-range_with_len, get_or-range_with_len}
use Rattle.std.proofs.lemmas.Bool.{cond-true, cond-false, cases_Bool, cases_eq}
use Rattle.std.proofs.lemmas.Option.{none-some, same_Some}
use Rattle.event_index.specs.Lookups.{before}
use Rattle.event_index.proofs.FindLemmas.{find-fails}

range_suc : (a n : ℕ) → range_with_len a (suc n) ≡ range_with_len a n ++ (a + n) ∷ []
range_suc a zero = ap (λ (k : ℕ). k ∷ []) (omega arith)
range_suc a (suc n) =
    let last : a + 1 + n ≡ a + suc n = omega arith in
    ap (λ (xs : List ℕ). a ∷ xs) (range_suc (a + 1) n ∙ ap (λ (k : ℕ). range_with_len (a + 1) n ++ k ∷ []) last)

-- one number more
pub range_more : (a n : ℕ) → range_with_len a (n + 1) ≡ range_with_len a n ++ (a + n) ∷ []
range_more a n = rw add-one (range_suc a n)

-- one event more before it
pub before_more : (e : ℕ) → before (e + 1) ≡ before e ++ e ∷ []
before_more e = range_more 0 e ∙ ap (λ (k : ℕ). before e ++ k ∷ []) (omega arith)

-- the last one, where the newest passes
pub find_last_yes : (test : ℕ → Bool) (e : ℕ) → test e ≡ true → find test (reverse (before (e + 1))) ≡ Some e
find_last_yes test e passes =
    ap (λ (xs : List ℕ). find test (reverse xs)) (before_more e) ∙ ap (find test) (reverse-append (before e) (e ∷ []))
    ∙ cond-true (test e) (Some e) (find test (reverse (before e))) passes

-- the last one, where the newest does not pass
pub find_last_no : (test : ℕ → Bool) (e : ℕ) → test e ≡ false → find test (reverse (before (e + 1))) ≡ find test (reverse (before e))
find_last_no test e fails =
    ap (λ (xs : List ℕ). find test (reverse xs)) (before_more e) ∙ ap (find test) (reverse-append (before e) (e ∷ []))
    ∙ cond-false (test e) (Some e) (find test (reverse (before e))) fails

-- the first one, one event further
pub find_first_more : (test : ℕ → Bool) (e : ℕ) → find test (before (e + 1)) ≡ option_or (find test (before e)) (cond (test e) (Some e) None)
find_first_more test e = ap (find test) (before_more e) ∙ find-append test (before e) (e ∷ [])

-- those that pass, one event further
pub filter_more_before : (test : ℕ → Bool) (e : ℕ) → filter test (before (e + 1)) ≡ filter test (before e) ++ cond (test e) (e ∷ []) []
filter_more_before test e = ap (filter test) (before_more e) ∙ filter-append test (before e) (e ∷ [])

-- where none is found, none passes
pub find_none : (test : ℕ → Bool) (a n : ℕ) → find test (range_with_len a n) ≡ None → (j : ℕ) → a ≤ j → j < a + n → test j ≡ false
find_none test a n h j low high =
    let within : j - a < n = omega arith in
    find-fails test (range_with_len a n) j h
    (j - a, omega (arith, within, length-range_with_len a n), get_or-range_with_len a n (j - a) j within ∙ omega arith)

-- where none passes, none is found
pub none_found : (test : ℕ → Bool) (a n : ℕ) → ((j : ℕ) → a ≤ j → j < a + n → test j ≡ false) → find test (range_with_len a n) ≡ None
none_found test a zero h = refl
none_found test a (suc n) h =
    cond-false (test a) (Some a) (find test (range_with_len (a + 1) n)) (h a (le_refl a) (omega arith))
    ∙ none_found test (a + 1) n (λ j low high. h j (omega arith) (omega arith))

-- the first one that passes
pub find_first_is : (test : ℕ → Bool) (a n j : ℕ) → find test (range_with_len a n) ≡ Some j
    → (a ≤ j) × (j < a + n) × (test j ≡ true) × ((k : ℕ) → a ≤ k → k < j → test k ≡ false)
find_first_is test a zero j h = absurd (none-some j h)
find_first_is test a (suc n) j h =
    elim (cases_Bool (test a)) [
      | inl passes ↦
          let here : a ≡ j = same_Some a j (sym (cond-true (test a) (Some a) (find test (range_with_len (a + 1) n)) passes) ∙ h) in
          (omega arith, omega arith, ap test (sym here) ∙ passes, λ k low high. absurd (omega arith))
      | inr fails ↦
          let rest = find_first_is test (a + 1) n j (sym (cond-false (test a) (Some a) (find test (range_with_len (a + 1) n)) fails) ∙ h) in (
            omega (arith, rest.0),
            omega (arith, rest.1),
            rest.2,
            λ k low high. elim (cases_eq k a) [ inl same ↦ ap test same ∙ fails | inr other ↦ rest.3 k (omega arith) high ],
          )
    ]

-- the last one that passes
pub find_last_is : (test : ℕ → Bool) (e j : ℕ) → find test (reverse (before e)) ≡ Some j
    → (j < e) × (test j ≡ true) × ((k : ℕ) → j < k → k < e → test k ≡ false)
find_last_is test zero j h = absurd (none-some j h)
find_last_is test (suc e) j h =
    let now : find test (reverse (before (e + 1))) ≡ Some j = rw (add-one e) h in
    elim (cases_Bool (test e)) [
      | inl passes ↦
          let here : e ≡ j = same_Some e j (sym (find_last_yes test e passes) ∙ now) in
          (omega arith, ap test (sym here) ∙ passes, λ k low high. absurd (omega arith))
      | inr fails ↦
          let rest = find_last_is test e j (sym (find_last_no test e fails) ∙ now) in (
            omega (arith, rest.0),
            rest.1,
            λ k low high. elim (cases_eq k e) [ inl same ↦ ap test same ∙ fails | inr other ↦ rest.2 k low (omega arith) ],
          )
    ]

-- where no last one is found, none passes
pub find_last_none : (test : ℕ → Bool) (e : ℕ) → find test (reverse (before e)) ≡ None → (k : ℕ) → k < e → test k ≡ false
find_last_none test zero h k low = absurd (omega arith)
find_last_none test (suc e) h k low =
    let now : find test (reverse (before (e + 1))) ≡ None = rw (add-one e) h in
    elim (cases_Bool (test e)) [
      | inl passes ↦ absurd (none-some e (sym now ∙ find_last_yes test e passes))
      | inr fails ↦
          elim (cases_eq k e) [
            | inl same ↦ ap test same ∙ fails
            | inr other ↦ find_last_none test e (sym (find_last_no test e fails) ∙ now) k (omega arith)
          ]
    ]
