-- Numbers of rows: one event further, and what the numbers of all events say.
use Rattle.std.proofs.Common.{◌≡◌, ◌≢◌, ℕ, zero, suc, ◌+◌, ◌-◌, ◌<◌, ◌≤◌, ◌==◌, ◌||◌, Bool, true, false, cond, not, List, [], ◌∷◌, ◌++◌, set, filter, count_by, map, replicate, length, get_or, slice_index, nat_lt, refl, sym, ap, ◌∙◌, arith, inl, inr, eq-eqb, add-one, append-nil, get_or-set_other, get_or-set_same}
use Rattle.std.specs.List.{list_any}
use Rattle.std.proofs.Math.ListN.{get_or-append}
use Rattle.std.proofs.Math.Seq.{get_or-append_seam}
use Rattle.std.proofs.lemmas.Bool.{cases_eq, cases_lt, true≢false, and_from, and_left, and_right, or_left, or_right, ne_eqb, lt-ltb}
use Rattle.std.proofs.lemmas.List.Folds.{list_any-append, list_any_at}
use Rattle.std.proofs.lemmas.List.{length-append, length-replicate, get_or-replicate, map-append}
use Rattle.std.proofs.lemmas.List.Elements.{All-from_get_or}
use Rattle.std.proofs.lemmas.List.FromFn.{length-range_with_len, get_or-range_with_len}
use Rattle.std.proofs.lemmas.List.Sums.{sum_by_push, count_by-le-length, length-filter}
use Rattle.event_index.specs.Lookups.{before}
use Rattle.event_index.proofs.CallerLemmas.{before_more, filter_more_before}
use Rattle.variable_uses.specs.Rows.{has_key, is_first}
use Rattle.variable_uses.specs.Numbers.{has_number, IsNumbered, AreNumbers, AreCountsBefore}
use Rattle.variable_uses.specs.declared.numbering.Numbering.{Numbering}

-- a count, and whether any passes, one event further
pub count_more : (test : ℕ → Bool) (e : ℕ) → count_by test (before (e + 1)) ≡ count_by test (before e) + cond (test e) 1 0
count_more test e = ap (count_by test) (before_more e) ∙ sum_by_push (λ x. cond (test x) 1 0) (before e) e

pub count_more_yes : (test : ℕ → Bool) (e : ℕ) → test e ≡ true → count_by test (before (e + 1)) ≡ count_by test (before e) + 1
count_more_yes test e h = count_more test e ∙ ap (λ b. count_by test (before e) + cond b 1 0) h

pub count_more_no : (test : ℕ → Bool) (e : ℕ) → test e ≡ false → count_by test (before (e + 1)) ≡ count_by test (before e)
count_more_no test e h =
    let one : count_by test (before (e + 1)) ≡ count_by test (before e) + 0 = count_more test e ∙ ap (λ b. count_by test (before e) + cond b 1 0) h in omega (arith, one)

pub count_within : (test : ℕ → Bool) (e : ℕ) → count_by test (before e) ≤ e
count_within test e = let le = count_by-le-length test (before e) in let len = length-range_with_len 0 e in omega (arith, le, len)

or_false : (b : Bool) → (b || false) ≡ b
or_false true = refl
or_false false = refl

pub any_more : (test : ℕ → Bool) (e : ℕ) → list_any test (before (e + 1)) ≡ (list_any test (before e) || test e)
any_more test e =
    ap (list_any test) (before_more e) ∙ list_any-append test (before e) (e ∷ []) ∙ ap (λ b. list_any test (before e) || b) (or_false (test e))

pub any_more_no : (test : ℕ → Bool) (e : ℕ) → test e ≡ false → list_any test (before (e + 1)) ≡ list_any test (before e)
any_more_no test e h = any_more test e ∙ ap (λ b. list_any test (before e) || b) h ∙ or_false (list_any test (before e))

pub any_more_yes : (test : ℕ → Bool) (e : ℕ) → test e ≡ true → list_any test (before (e + 1)) ≡ true
any_more_yes test e h = any_more test e ∙ or_right (list_any test (before e)) (test e) h

pub any_more_known : (test : ℕ → Bool) (e : ℕ) → list_any test (before e) ≡ true → list_any test (before (e + 1)) ≡ true
any_more_known test e h = any_more test e ∙ or_left (list_any test (before e)) (test e) h

-- an event that passes is found among the first n
pub any_below : (test : ℕ → Bool) (n e : ℕ) → e < n → test e ≡ true → list_any test (before n) ≡ true
any_below test n e lt h =
    let is : get_or (before n) e 0 ≡ e = get_or-range_with_len 0 n e 0 lt ∙ omega arith in
    list_any_at test (before n) e 0 (omega (arith, length-range_with_len 0 n)) (ap test is ∙ h)

-- counts, one event further
pub AreCountsBefore-none : (numbers : List ℕ) (n : ℕ) (counts : List ℕ) → slice_index numbers n ≡ 0 → AreCountsBefore numbers n counts → AreCountsBefore numbers (n + 1) counts
AreCountsBefore-none numbers n counts zero_there are k lt =
    are k lt ∙ sym (count_more_no (has_number numbers k) n (ap (λ x. x == k + 1) zero_there ∙ ne_eqb 0 (k + 1) (omega arith)))

pub AreCountsBefore-one : (numbers : List ℕ) (n row : ℕ) (counts after : List ℕ) → slice_index numbers n ≡ row + 1 → row < length counts → after ≡ set counts row (slice_index counts row + 1)
    → length after ≡ length counts → AreCountsBefore numbers n counts → AreCountsBefore numbers (n + 1) after
AreCountsBefore-one numbers n row counts after there within is len are k lt =
    elim (cases_eq k row) [
      | inl same ↦
          let here : slice_index after k ≡ slice_index counts row + 1 = ap (λ xs. slice_index xs k) is ∙ ap (slice_index (set counts row (slice_index counts row + 1))) same ∙ get_or-set_same counts row (slice_index counts row + 1) 0 within in
          let one = count_more_yes (has_number numbers k) n (eq-eqb (slice_index numbers n) (k + 1) (there ∙ ap (λ r. r + 1) (sym same))) in
          let old = are k (omega (arith, same, within)) in
          let moved : slice_index counts k ≡ slice_index counts row = ap (slice_index counts) same in
          omega (arith, here, one, old, moved)
      | inr other ↦
          let here : slice_index after k ≡ slice_index counts k = ap (λ xs. slice_index xs k) is ∙ get_or-set_other counts row k (slice_index counts row + 1) 0 other in
          here ∙ are k (omega (arith, lt, len)) ∙ sym (count_more_no (has_number numbers k) n (ne_eqb (slice_index numbers n) (k + 1) (omega (arith, there, other))))
    ]

-- rows, one event further
module _ (keys : List ℕ) (n : ℕ) (slots : List ℕ) (s : Numbering) (are : IsNumbered keys n n slots s) where
  -- an event that is not the first of a row
  same_rows : is_first keys n ≡ false → (0 < slice_index keys n → list_any (has_key keys (slice_index keys n)) (before n) ≡ true) → IsNumbered keys (n + 1) n slots s
  same_rows fails seen = record {
    firsts =
        are.firsts
        ∙ sym (filter_more_before (is_first keys) n ∙ ap (λ b. filter (is_first keys) (before n) ++ cond b (n ∷ []) []) fails ∙ append-nil (filter (is_first keys) (before n)));
    len = are.len;
    zero_slot = are.zero_slot;
    numbers = are.numbers;
    known = λ key positive. elim (cases_eq (slice_index keys n) key) [
      | inl is ↦
          let old : list_any (has_key keys key) (before n) ≡ true = ap (λ k. list_any (has_key keys k) (before n)) (sym is) ∙ seen (omega (arith, is, positive)) in
          are.known key positive ∙ old ∙ sym (any_more_known (has_key keys key) n old)
      | inr ne ↦ are.known key positive ∙ sym (any_more_no (has_key keys key) n (ne_eqb (slice_index keys n) key ne))
    ];
    few = are.few;
    at = are.at;
    back = are.back;
  }

  -- an event of no row
  pub IsNumbered-none : slice_index keys n ≡ 0 → IsNumbered keys (n + 1) n slots s
  IsNumbered-none none =
      same_rows (and_left (nat_lt 0 (slice_index keys n)) (not (list_any (has_key keys (slice_index keys n)) (before n))) (ap (nat_lt 0) none)) (λ positive. absurd (omega (arith, none, positive)))

  -- an event of a row that began earlier
  pub IsNumbered-known : 0 < slice_index keys n → 0 < slice_index slots (slice_index keys n) → IsNumbered keys (n + 1) n slots s
  IsNumbered-known positive there =
      let key : ℕ = slice_index keys n in
      let seen : list_any (has_key keys (slice_index keys n)) (before n) ≡ true = sym (are.known (slice_index keys n) positive) ∙ lt-ltb 0 (slice_index slots (slice_index keys n)) there in
      same_rows (and_right (nat_lt 0 (slice_index keys n)) (not (list_any (has_key keys (slice_index keys n)) (before n))) (ap not seen)) (λ _. seen)

  -- the first event of a row
  module _ (t : Numbering) (after : List ℕ) (positive : 0 < slice_index keys n) (free : slice_index slots (slice_index keys n) ≡ 0) (within : slice_index keys n < length slots)
      (more : t.firsts.items ≡ s.firsts.items ++ n ∷ []) (same : t.numbers.items ≡ s.numbers.items) (put : after ≡ set slots (slice_index keys n) (length s.firsts.items + 1)) where
    unseen : list_any (has_key keys (slice_index keys n)) (before n) ≡ false
    unseen = sym (are.known (slice_index keys n) positive) ∙ ap (nat_lt 0) free

    begins : is_first keys n ≡ true
    begins = and_from (nat_lt 0 (slice_index keys n)) (not (list_any (has_key keys (slice_index keys n)) (before n))) (lt-ltb 0 (slice_index keys n) positive) (ap not unseen)

    here : slice_index after (slice_index keys n) ≡ length s.firsts.items + 1
    here = ap (λ xs. slice_index xs (slice_index keys n)) put ∙ get_or-set_same slots (slice_index keys n) (length s.firsts.items + 1) 0 within

    there : (key : ℕ) → key ≢ slice_index keys n → slice_index after key ≡ slice_index slots key
    there key ne = ap (λ xs. slice_index xs key) put ∙ get_or-set_other slots (slice_index keys n) key (length s.firsts.items + 1) 0 ne

    first_old : (k : ℕ) → k < length s.firsts.items → slice_index t.firsts.items k ≡ slice_index s.firsts.items k
    first_old k lt = ap (λ xs. slice_index xs k) more ∙ get_or-append s.firsts.items (n ∷ []) 0 k lt

    first_new : slice_index t.firsts.items (length s.firsts.items) ≡ n
    first_new = ap (λ xs. slice_index xs (length s.firsts.items)) more ∙ get_or-append_seam s.firsts.items n [] 0

    length_new : length t.firsts.items ≡ length s.firsts.items + 1
    length_new = ap length more ∙ length-append s.firsts.items (n ∷ [])

    pub IsNumbered-new : IsNumbered keys (n + 1) n after t
    IsNumbered-new = record {
      firsts = more ∙ ap (λ xs. xs ++ n ∷ []) are.firsts ∙ sym (filter_more_before (is_first keys) n ∙ ap (λ b. filter (is_first keys) (before n) ++ cond b (n ∷ []) []) begins);
      len = ap length same ∙ are.len;
      zero_slot = there 0 (λ is. omega (arith, is, positive)) ∙ are.zero_slot;
      numbers = λ e lt.
          let ne : slice_index keys e ≢ slice_index keys n = λ is. true≢false (sym (any_below (has_key keys (slice_index keys n)) n e lt (eq-eqb (slice_index keys e) (slice_index keys n) is)) ∙ unseen) in
          ap (λ xs. slice_index xs e) same ∙ are.numbers e lt ∙ sym (there (slice_index keys e) ne);
      known = λ key above. elim (cases_eq key (slice_index keys n)) [
        | inl is ↦
            let now : 0 < slice_index after key = let moved : slice_index after key ≡ slice_index after (slice_index keys n) = ap (slice_index after) is in omega (arith, moved, here) in
            lt-ltb 0 (slice_index after key) now ∙ sym (any_more_yes (has_key keys key) n (eq-eqb (slice_index keys n) key (sym is)))
        | inr ne ↦
            ap (nat_lt 0) (there key ne) ∙ are.known key above ∙ sym (any_more_no (has_key keys key) n (ne_eqb (slice_index keys n) key (λ is. ne (sym is))))
      ];
      few = λ key. elim (cases_eq key (slice_index keys n)) [
        | inl is ↦ let moved : slice_index after key ≡ slice_index after (slice_index keys n) = ap (slice_index after) is in omega (arith, moved, here, length_new)
        | inr ne ↦ let old = are.few key in let kept = there key ne in omega (arith, old, kept, length_new)
      ];
      at = λ k lt. elim (cases_lt k (length s.firsts.items)) [
        | inl low ↦
            let old = are.at k low in
            let ne : slice_index keys (slice_index s.firsts.items k) ≢ slice_index keys n = λ is. let moved : slice_index slots (slice_index keys (slice_index s.firsts.items k)) ≡ slice_index slots (slice_index keys n) = ap (slice_index slots) is in omega (arith, old, moved, free) in
            ap (λ f. slice_index after (slice_index keys f)) (first_old k low) ∙ there (slice_index keys (slice_index s.firsts.items k)) ne ∙ old
        | inr high ↦
            let is : k ≡ length s.firsts.items = omega (arith, lt, high, length_new) in
            ap (λ j. slice_index after (slice_index keys (slice_index t.firsts.items j))) is ∙ ap (λ f. slice_index after (slice_index keys f)) first_new ∙ here ∙ ap (λ j. j + 1) (sym is)
      ];
      back = λ key above. elim (cases_eq key (slice_index keys n)) [
        | inl is ↦
            let slot : slice_index after key - 1 ≡ length s.firsts.items = let moved : slice_index after key ≡ slice_index after (slice_index keys n) = ap (slice_index after) is in omega (arith, moved, here) in
            ap (λ j. slice_index keys (slice_index t.firsts.items j)) slot ∙ ap (slice_index keys) first_new ∙ sym is
        | inr ne ↦
            let kept = there key ne in
            let few = are.few key in
            let above_old : 0 < slice_index slots key = omega (arith, kept, above) in
            ap (λ j. slice_index keys (slice_index t.firsts.items (j - 1))) kept ∙ ap (slice_index keys) (first_old (slice_index slots key - 1) (omega (arith, few, above_old))) ∙ are.back key above_old
      ];
    }

-- the number of one more event
pub IsNumbered-push : (keys : List ℕ) (n : ℕ) (slots : List ℕ) (s t : Numbering) → IsNumbered keys (n + 1) n slots s → t.firsts.items ≡ s.firsts.items → t.numbers.items ≡ s.numbers.items ++ slice_index slots (slice_index keys n) ∷ []
    → IsNumbered keys (n + 1) (n + 1) slots t
IsNumbered-push keys n slots s t are same more = record {
  firsts = same ∙ are.firsts;
  len = ap length more ∙ length-append s.numbers.items (slice_index slots (slice_index keys n) ∷ []) ∙ ap (λ m. m + 1) are.len;
  zero_slot = are.zero_slot;
  numbers = λ e lt. elim (cases_lt e n) [
    | inl low ↦ ap (λ xs. slice_index xs e) more ∙ get_or-append s.numbers.items (slice_index slots (slice_index keys n) ∷ []) 0 e (omega (arith, low, are.len)) ∙ are.numbers e low
    | inr high ↦
        let is : e ≡ length s.numbers.items = omega (arith, lt, high, are.len) in
        let last : e ≡ n = omega (arith, is, are.len) in
        ap (slice_index t.numbers.items) is ∙ ap (λ xs. slice_index xs (length s.numbers.items)) more ∙ get_or-append_seam s.numbers.items (slice_index slots (slice_index keys n)) [] 0
        ∙ ap (λ d. slice_index slots (slice_index keys d)) (sym last)
  ];
  known = are.known;
  few = λ key. let old = are.few key in let len : length t.firsts.items ≡ length s.firsts.items = ap length same in omega (arith, old, len);
  at = λ k lt. ap (λ xs. slice_index slots (slice_index keys (slice_index xs k))) same ∙ are.at k (let len : length t.firsts.items ≡ length s.firsts.items = ap length same in omega (arith, lt, len));
  back = λ key above. ap (λ xs. slice_index keys (slice_index xs (slice_index slots key - 1))) same ∙ are.back key above;
}

-- what no bound reaches is 0
pub beyond : (xs : List ℕ) (e : ℕ) → length xs ≤ e → slice_index xs e ≡ 0
beyond [] e le = refl
beyond (x ∷ xs) zero le = absurd (omega (arith, le, add-one (length xs)))
beyond (x ∷ xs) (suc e) le = beyond xs e (omega (arith, le, add-one (length xs)))

-- a row has its first event among those so far, so there are no more rows than events
pub firsts_within : (keys : List ℕ) (n : ℕ) (firsts : List ℕ) → firsts ≡ filter (is_first keys) (before n) → length firsts ≤ n
firsts_within keys n firsts is =
    let len : length firsts ≡ count_by (is_first keys) (before n) = ap length is ∙ length-filter (is_first keys) (before n) in
    let few = count_within (is_first keys) n in
    omega (arith, len, few)

-- no slot is used before the first event
pub zeros : (n key : ℕ) → slice_index (replicate n 0) key ≡ 0
zeros n key = elim (cases_lt key n) [ inl lt ↦ get_or-replicate n key 0 0 lt | inr ge ↦ beyond (replicate n 0) key (omega (arith, ge, length-replicate {A = ℕ} n 0)) ]

pub IsNumbered-begin : (keys slots : List ℕ) (s : Numbering) → ((key : ℕ) → slice_index slots key ≡ 0) → s.firsts.items ≡ [] → s.numbers.items ≡ [] → IsNumbered keys 0 0 slots s
IsNumbered-begin keys slots s none no_firsts no_numbers =
    let empty : length s.firsts.items ≡ 0 = ap length no_firsts in
    record {
      firsts = no_firsts;
      len = ap length no_numbers;
      zero_slot = none 0;
      numbers = λ e lt. absurd (omega (arith, lt));
      known = λ key above. ap (nat_lt 0) (none key);
      few = λ key. let is = none key in omega (arith, is);
      at = λ k lt. absurd (omega (arith, lt, empty));
      back = λ key above. absurd (let is = none key in omega (arith, is, above));
    }

-- keys of events, one event further
pub map_more_before : (f : ℕ → ℕ) (e : ℕ) → map f (before (e + 1)) ≡ map f (before e) ++ f e ∷ []
map_more_before f e = ap (map f) (before_more e) ∙ map-append f (before e) (e ∷ [])

-- numbers of all events
module _ (keys : List ℕ) (slots : List ℕ) (s : Numbering) (are : IsNumbered keys (length keys) (length keys) slots s) where
  inside : (k e : ℕ) → k < length s.firsts.items → e < length keys → has_number s.numbers.items k e ≡ has_key keys (slice_index keys (slice_index s.firsts.items k)) e
  inside k e lt low =
      let key : ℕ = slice_index keys (slice_index s.firsts.items k) in
      let number = are.numbers e low in
      elim (cases_eq (slice_index keys e) key) [
        | inl is ↦
            let mine : slice_index s.numbers.items e ≡ k + 1 = number ∙ ap (slice_index slots) is ∙ are.at k lt in
            eq-eqb (slice_index s.numbers.items e) (k + 1) mine ∙ sym (eq-eqb (slice_index keys e) key is)
        | inr ne ↦
            let other : slice_index s.numbers.items e ≢ k + 1 = λ is.
            let slot : slice_index slots (slice_index keys e) ≡ k + 1 = sym number ∙ is in
            let row : slice_index slots (slice_index keys e) - 1 ≡ k = omega (arith, slot) in
            ne (sym (are.back (slice_index keys e) (omega (arith, slot))) ∙ ap (λ j. slice_index keys (slice_index s.firsts.items j)) row) in
            ne_eqb (slice_index s.numbers.items e) (k + 1) other ∙ sym (ne_eqb (slice_index keys e) key ne)
      ]

  tests : (k e : ℕ) → k < length s.firsts.items → has_number s.numbers.items k e ≡ has_key keys (slice_index keys (slice_index s.firsts.items k)) e
  tests k e lt = elim (cases_lt e (length keys)) [
    | inl low ↦ inside k e lt low
    | inr high ↦
        let none : slice_index s.numbers.items e ≡ 0 = beyond s.numbers.items e (omega (arith, high, are.len)) in
        let no_key : slice_index keys e ≡ 0 = beyond keys e high in
        let at = are.at k lt in
        let ne : slice_index keys (slice_index s.firsts.items k) ≢ 0 = λ is. let moved : slice_index slots (slice_index keys (slice_index s.firsts.items k)) ≡ slice_index slots 0 = ap (slice_index slots) is in omega (arith, moved, at, are.zero_slot) in
        ne_eqb (slice_index s.numbers.items e) (k + 1) (omega (arith, none)) ∙ sym (ne_eqb (slice_index keys e) (slice_index keys (slice_index s.firsts.items k)) (λ is. ne (sym is ∙ no_key)))
  ]

  positive : (e : ℕ) → nat_lt 0 (slice_index s.numbers.items e) ≡ nat_lt 0 (slice_index keys e)
  positive e = elim (cases_lt e (length keys)) [
    | inl low ↦
        let number = are.numbers e low in
        elim (cases_lt 0 (slice_index keys e)) [
          | inl keyed ↦
              ap (nat_lt 0) number ∙ are.known (slice_index keys e) keyed ∙ any_below (has_key keys (slice_index keys e)) (length keys) e low (eq-eqb (slice_index keys e) (slice_index keys e) refl)
              ∙ sym (lt-ltb 0 (slice_index keys e) keyed)
          | inr free ↦
              let no_key : slice_index keys e ≡ 0 = omega (arith, free) in
              ap (nat_lt 0) (number ∙ ap (slice_index slots) no_key ∙ are.zero_slot ∙ sym no_key)
        ]
    | inr high ↦ ap (nat_lt 0) (beyond s.numbers.items e (omega (arith, high, are.len)) ∙ sym (beyond keys e high))
  ]

  pub AreNumbers-all : AreNumbers keys s
  AreNumbers-all = record {
    firsts = are.firsts;
    len = are.len;
    few = All-from_get_or (λ m. m ≤ length s.firsts.items) s.numbers.items 0 (λ e lt. let number = are.numbers e (omega (arith, lt, are.len)) in let few = are.few (slice_index keys e) in omega (arith, number, few));
    positive = positive;
    tests = tests;
  }
