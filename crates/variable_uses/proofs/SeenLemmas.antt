-- The threads of rows, one event further and one thread further.
use Rattle.std.proofs.Common.{◌≡◌, ◌≢◌, ℕ, ◌+◌, ◌-◌, ◌<◌, ◌≤◌, ◌==◌, ◌||◌, Bool, true, false, cond, List, [], ◌∷◌, ◌++◌, All, set, length, get_or, slice_index, refl, sym, ap, subst, ◌∙◌, arith, inl, inr, eq-eqb, get_or-set_other, get_or-set_same}
use Rattle.std.specs.List.{list_any}
use Rattle.std.proofs.lemmas.Bool.{cases_eq, or_right, ne_eqb}
use Rattle.std.proofs.lemmas.List.Elements.{All-set, All-get_or}
use Rattle.std.proofs.lemmas.List.Folds.{list_any-append}
use Rattle.rapid_text.specs.declared.event.Event.{Event}
use Rattle.event_index.specs.Lookups.{events_of}
use Rattle.variable_uses.specs.Numbers.{has_number}
use Rattle.variable_uses.specs.Rows.{threads_in}
use Rattle.variable_uses.specs.Seen.{AreSeen, IsSeen, none, again, first}
use Rattle.variable_uses.proofs.NumberLemmas.{count_more, count_within}

or_false : (b : Bool) → (b || false) ≡ b
or_false true = refl
or_false false = refl

any_push : (test : ℕ → Bool) (events : List ℕ) (e : ℕ) → list_any test (events ++ e ∷ []) ≡ (list_any test events || test e)
any_push test events e = list_any-append test events (e ∷ []) ∙ ap (λ b. list_any test events || b) (or_false (test e))

pub any_push_no : (test : ℕ → Bool) (events : List ℕ) (e : ℕ) → test e ≡ false → list_any test (events ++ e ∷ []) ≡ list_any test events
any_push_no test events e h = any_push test events e ∙ ap (λ b. list_any test events || b) h ∙ or_false (list_any test events)

pub any_push_yes : (test : ℕ → Bool) (events : List ℕ) (e : ℕ) → test e ≡ true → list_any test (events ++ e ∷ []) ≡ true
any_push_yes test events e h = any_push test events e ∙ or_right (list_any test events) (test e) h

module _ (T : List Event) (numbers : List ℕ) (n : ℕ) (events : List ℕ) (e : ℕ) (counts lasts : List ℕ) (are : AreSeen T numbers n events counts lasts) where
  -- an event that changes nothing
  same_seen : ((k : ℕ) → k < length counts → list_any (has_number numbers k) (events ++ e ∷ []) ≡ list_any (has_number numbers k) events) → AreSeen T numbers n (events ++ e ∷ []) counts lasts
  same_seen same = record {
    per_row = λ k lt. are.per_row k lt ∙ ap (λ b. threads_in T n (has_number numbers k) + cond b 1 0) (sym (same k lt));
    last_in_row = λ k lt. are.last_in_row k lt ∙ sym (same k lt);
    few = are.few;
  }

  other_row : (k : ℕ) → slice_index numbers e ≢ k + 1 → list_any (has_number numbers k) (events ++ e ∷ []) ≡ list_any (has_number numbers k) events
  other_row k ne = any_push_no (has_number numbers k) events e (ne_eqb (slice_index numbers e) (k + 1) ne)

  again_row : 0 < slice_index numbers e → slice_index lasts (slice_index numbers e - 1) ≡ n + 1 → (k : ℕ) → k < length counts → list_any (has_number numbers k) (events ++ e ∷ []) ≡ list_any (has_number numbers k) events
  again_row positive last k lt = elim (cases_eq (slice_index numbers e) (k + 1)) [
    | inl is ↦
        let row : slice_index numbers e - 1 ≡ k = omega (arith, is) in
        let known : list_any (has_number numbers k) events ≡ true = sym (are.last_in_row k lt) ∙ eq-eqb (slice_index lasts k) (n + 1) (sym (ap (slice_index lasts) row) ∙ last) in
        any_push_yes (has_number numbers k) events e (eq-eqb (slice_index numbers e) (k + 1) is) ∙ sym known
    | inr ne ↦ other_row k ne
  ]

  module _ (after later : List ℕ) (row : ℕ) (len : length lasts ≡ length counts) (within : row < length counts) (is : slice_index numbers e ≡ row + 1) (fresh : slice_index lasts row ≢ n + 1)
      (put : after ≡ set counts row (slice_index counts row + 1)) (noted : later ≡ set lasts row (n + 1)) (len_after : length after ≡ length counts) where
    first_seen : AreSeen T numbers n (events ++ e ∷ []) after later
    first_seen = record {
      per_row = λ k lt. elim (cases_eq k row) [
        | inl same ↦
            let here : slice_index after k ≡ slice_index counts row + 1 = ap (λ xs. slice_index xs k) put ∙ ap (slice_index (set counts row (slice_index counts row + 1))) same ∙ get_or-set_same counts row (slice_index counts row + 1) 0 within in
            let old : list_any (has_number numbers row) events ≡ false = sym (are.last_in_row row within) ∙ ne_eqb (slice_index lasts row) (n + 1) fresh in
            let base : slice_index counts row ≡ threads_in T n (has_number numbers row) + 0 = are.per_row row within ∙ ap (λ b. threads_in T n (has_number numbers row) + cond b 1 0) old in
            let now : list_any (has_number numbers row) (events ++ e ∷ []) ≡ true = any_push_yes (has_number numbers row) events e (eq-eqb (slice_index numbers e) (row + 1) is) in
            let target : threads_in T n (has_number numbers row) + cond (list_any (has_number numbers row) (events ++ e ∷ [])) 1 0 ≡ threads_in T n (has_number numbers row) + 1 = ap (λ b. threads_in T n (has_number numbers row) + cond b 1 0) now in
            let sum : slice_index after k ≡ threads_in T n (has_number numbers row) + 1 = omega (arith, here, base) in
            sum ∙ sym target ∙ ap (λ r. threads_in T n (has_number numbers r) + cond (list_any (has_number numbers r) (events ++ e ∷ [])) 1 0) (sym same)
        | inr other ↦
            ap (λ xs. slice_index xs k) put ∙ get_or-set_other counts row k (slice_index counts row + 1) 0 other ∙ are.per_row k (omega (arith, lt, len_after))
            ∙ ap (λ b. threads_in T n (has_number numbers k) + cond b 1 0) (sym (other_row k (omega (arith, is, other))))
      ];
      last_in_row = λ k lt. elim (cases_eq k row) [
        | inl same ↦
            let here : slice_index later k ≡ n + 1 = ap (λ xs. slice_index xs k) noted ∙ ap (slice_index (set lasts row (n + 1))) same ∙ get_or-set_same lasts row (n + 1) 0 (omega (arith, within, len)) in
            eq-eqb (slice_index later k) (n + 1) here ∙ sym (any_push_yes (has_number numbers k) events e (eq-eqb (slice_index numbers e) (k + 1) (is ∙ ap (λ r. r + 1) (sym same))))
        | inr other ↦
            ap (λ xs. slice_index xs k == n + 1) noted ∙ ap (λ l. l == n + 1) (get_or-set_other lasts row k (n + 1) 0 other) ∙ are.last_in_row k (omega (arith, lt, len_after))
            ∙ sym (other_row k (omega (arith, is, other)))
      ];
      few = subst (All (λ l. l ≤ n + 1)) (sym noted) (All-set (λ l. l ≤ n + 1) lasts row (n + 1) (omega arith) are.few);
    }

  -- one event more
  pub AreSeen-more : (number : ℕ) (after later : List ℕ) → length lasts ≡ length counts → number ≡ slice_index numbers e → number ≤ length counts → IsSeen n number counts lasts after later → length after ≡ length counts
      → AreSeen T numbers n (events ++ e ∷ []) after later
  AreSeen-more number after later len is within (none zero_there same kept) lens =
      subst (λ xs. AreSeen T numbers n (events ++ e ∷ []) xs later) (sym same)
      (subst (AreSeen T numbers n (events ++ e ∷ []) counts) (sym kept) (same_seen (λ k lt. other_row k (omega (arith, zero_there, is)))))
  AreSeen-more number after later len is within (again positive last same kept) lens =
      subst (λ xs. AreSeen T numbers n (events ++ e ∷ []) xs later) (sym same)
      (subst (AreSeen T numbers n (events ++ e ∷ []) counts) (sym kept) (same_seen (again_row (omega (arith, positive, is)) (ap (λ m. slice_index lasts (m - 1)) (sym is) ∙ last))))
  AreSeen-more number after later len is within (first positive fresh put noted) lens =
      first_seen after later (number - 1) len (omega (arith, positive, within)) (omega (arith, positive, is)) fresh put noted lens

at_most_one : (b : Bool) → ◌≤◌ (cond b 1 0) 1
at_most_one true = omega arith
at_most_one false = omega arith

-- no row has more threads than there were
pub AreSeen-few : (T : List Event) (numbers : List ℕ) (n : ℕ) (events counts lasts : List ℕ) → AreSeen T numbers n events counts lasts → (k : ℕ) → k < length counts → slice_index counts k ≤ n + 1
AreSeen-few T numbers n events counts lasts are k lt =
    let is = are.per_row k lt in
    let few = count_within (λ t. list_any (has_number numbers k) (events_of T t)) n in
    let one = at_most_one (list_any (has_number numbers k) events) in
    omega (arith, is, few, one)

-- the next thread
pub AreSeen-next : (T : List Event) (numbers : List ℕ) (n : ℕ) (counts lasts : List ℕ) → length lasts ≡ length counts → AreSeen T numbers n (events_of T n) counts lasts → AreSeen T numbers (n + 1) [] counts lasts
AreSeen-next T numbers n counts lasts len are = record {
  per_row = λ k lt.
      let more = count_more (λ t. list_any (has_number numbers k) (events_of T t)) n in
      let old = are.per_row k lt in
      omega (arith, more, old);
  last_in_row = λ k lt.
      let few : slice_index lasts k ≤ n + 1 = All-get_or (λ l. l ≤ n + 1) lasts k 0 (omega (arith, lt, len)) are.few in
      ne_eqb (slice_index lasts k) (n + 1 + 1) (omega (arith, few));
  few = λ k d lt. let le : get_or lasts k d ≤ n + 1 = are.few k d lt in omega (arith, le);
}
