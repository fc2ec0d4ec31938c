-- What rows count together with the candidates that wait for them.
use Rattle.std.proofs.Common.{◌≡◌, ◌≢◌, ℕ, zero, suc, ◌+◌, ◌-◌, ◌<◌, ◌≤◌, ◌^◌, Bool, true, false, List, [], ◌∷◌, map, Option, Some, None, Vec, Contains, ◌++◌, length, replicate, slice_index, slice_index_or, slice_set, ◌==◌, ◌&&◌, refl, sym, ap, subst, ◌∙◌, inl, inr, ◌⊎◌, arith}
use Rattle.std.specs.Bool.{if◌then◌else◌}
use Rattle.std.specs.Map.{keys_of, lookup}
use Rattle.std.specs.List.{IsDistinct}
use Rattle.std.specs.Option.{unwrap_or, option_map}
use Rattle.std.specs.declared.alloc.Global.{Global}
use Rattle.std.proofs.lemmas.Bool.{cases_Bool, and_from, cond-true, cond-false, eq-eqb, or_left, or_right, true≢false}
use Rattle.std.proofs.lemmas.List.Elements.{All-nil, All-same}
use Rattle.std.proofs.lemmas.Option.{slice_get_read}
use Rattle.indexmap.specs.IndexMap.{IndexMap, IsUnique, get, keys}
use Rattle.race_groups.specs.Groups.{is_between}
use Rattle.race_groups.specs.Rows.{Part, of_all, of_candidates, of_ordered, of_guarded, part, same_places, count_at, AreRows}
use Rattle.race_groups.specs.Waiting.{AreWaiting, cell_at, entry_with, numbers_of, rows_with, waiting_at, waiting_of, with_more}
use Rattle.race_groups.specs.declared.rows.Sums.{Sums}
use Rattle.race_groups.proofs.RowLemmas.{AreRows-grown, between_cases, count_at-none, count_at-there, same_places_are}
use Rattle.race_groups.proofs.WalkLemmas.{if_le}

module _ (w : Vec ℕ Global) where
  -- the numbers after one row is replaced
  pub cell_set : (cells : List (Vec ℕ Global)) (b : ℕ) → b < length cells → (p : ℕ) → cell_at (slice_set cells b w) b p ≡ slice_index w.items p
  cell_set [] b low p = absurd (omega (arith, low))
  cell_set (x ∷ xs) zero low p = refl
  cell_set (x ∷ xs) (suc b) low p = cell_set xs b (omega (arith, low)) p

  pub cell_other : (cells : List (Vec ℕ Global)) (b q : ℕ) → q ≢ b → (p : ℕ) → cell_at (slice_set cells b w) q p ≡ cell_at cells q p
  cell_other [] b q ne p = refl
  cell_other (x ∷ xs) zero zero ne p = absurd (ne refl)
  cell_other (x ∷ xs) zero (suc q) ne p = refl
  cell_other (x ∷ xs) (suc b) zero ne p = refl
  cell_other (x ∷ xs) (suc b) (suc q) ne p = cell_other xs b q (λ e. ne (ap suc e)) p

  -- those of the row that stands there
  pub cell_was : (cells : List (Vec ℕ Global)) (b : ℕ) → b < length cells → w ≡ slice_index_or cells b w → (p : ℕ) → cell_at cells b p ≡ slice_index w.items p
  cell_was cells b low is p = ap (λ o. slice_index (numbers_of o) p) (slice_get_read cells (length cells) b w refl low is)

  -- and with one row of zeros more
  pub cell_push : (cells : List (Vec ℕ Global)) → ((q p : ℕ) → cell_at cells q p ≡ 0) → ((p : ℕ) → slice_index w.items p ≡ 0) → (q p : ℕ) → cell_at (cells ++ w ∷ []) q p ≡ 0
  cell_push [] none row zero p = row p
  cell_push [] none row (suc q) p = refl
  cell_push (x ∷ xs) none row zero p = none 0 p
  cell_push (x ∷ xs) none row (suc q) p = cell_push xs (λ k. none (suc k)) row q p

pub zeros_index : (n p : ℕ) → slice_index (replicate n 0) p ≡ 0
zeros_index zero p = refl
zeros_index (suc n) zero = refl
zeros_index (suc n) (suc p) = zeros_index n p

pub between_from : (p q a b : ℕ) → a ≡ p → b ≡ q → is_between p q a b ≡ true
between_from p q a b first second = or_left (a == p && b == q) (a == q && b == p) (and_from (a == p) (b == q) (eq-eqb a p first) (eq-eqb b q second))

pub between_turned : (p q a b : ℕ) → a ≡ q → b ≡ p → is_between p q a b ≡ true
between_turned p q a b first second = or_right (a == p && b == q) (a == q && b == p) (and_from (a == q) (b == p) (eq-eqb a q first) (eq-eqb b p second))

part_more : (k : Part) (v : Sums) (n : ℕ) → part k (with_more v n) ≡ part k v + waiting_of k n
part_more of_all v n = omega arith
part_more of_candidates v n = refl
part_more of_ordered v n = omega arith
part_more of_guarded v n = omega arith

waiting_of-zero : (k : Part) → waiting_of k 0 ≡ 0
waiting_of-zero of_all = refl
waiting_of-zero of_candidates = refl
waiting_of-zero of_ordered = refl
waiting_of-zero of_guarded = refl

waiting_of-plus : (k : Part) (w n : ℕ) (b : Bool) → waiting_of k (w + (if b then n else 0)) ≡ waiting_of k w + (if b then waiting_of k n else 0)
waiting_of-plus of_all w n true = refl
waiting_of-plus of_all w n false = refl
waiting_of-plus of_candidates w n b = refl
waiting_of-plus of_ordered w n true = refl
waiting_of-plus of_ordered w n false = refl
waiting_of-plus of_guarded w n true = refl
waiting_of-plus of_guarded w n false = refl

-- a row that is looked up, with what waits for it
lookup_with : (cells : List (Vec ℕ Global)) (key : ℕ × ℕ) (es : List ((ℕ × ℕ) × Sums))
    → lookup (same_places key) (map (entry_with cells) es) ≡ option_map (λ (v : Sums). with_more v (waiting_at cells key.0 key.1)) (lookup (same_places key) es)
lookup_with cells key [] = refl
lookup_with cells key (e ∷ es) =
    let more : Sums → Sums = λ v. with_more v (waiting_at cells key.0 key.1) in
    let rest = lookup (same_places key) es in
    let after = lookup (same_places key) (map (entry_with cells) es) in
    elim (cases_Bool (same_places key e.0)) [
      | inl here ↦
          cond-true (same_places key e.0) (Some (with_more e.1 (waiting_at cells e.0.0 e.0.1))) after here
          ∙ ap (λ (k : ℕ × ℕ). Some (with_more e.1 (waiting_at cells k.0 k.1))) (sym (same_places_are key e.0 here))
          ∙ ap (option_map more) (sym (cond-true (same_places key e.0) (Some e.1) rest here))
      | inr not_so ↦
          cond-false (same_places key e.0) (Some (with_more e.1 (waiting_at cells e.0.0 e.0.1))) after not_so
          ∙ lookup_with cells key es
          ∙ ap (option_map more) (sym (cond-false (same_places key e.0) (Some e.1) rest not_so))
    ]

keys_kept : (cells : List (Vec ℕ Global)) (es : List ((ℕ × ℕ) × Sums)) → keys_of (map (entry_with cells) es) ≡ keys_of es
keys_kept cells [] = refl
keys_kept cells (e ∷ es) = ap (λ ks. e.0 ∷ ks) (keys_kept cells es)

module _ {S : Type 0} (cells : List (Vec ℕ Global)) (m : IndexMap (ℕ × ℕ) Sums S) where
  pub keys_with : keys (rows_with cells m) ≡ keys m
  keys_with = keys_kept cells m.entries

  pub unique_with : IsUnique same_places m → IsUnique same_places (rows_with cells m)
  unique_with once = subst (λ (ks : List (ℕ × ℕ)). IsDistinct same_places ks) (sym keys_with) once

  module _ (are : AreWaiting cells m) where
    -- what a row counts and what waits for it
    pub count_with : (k : Part) (p q : ℕ) → p ≤ q → count_at k (rows_with cells m) p q ≡ count_at k m p q + waiting_of k (waiting_at cells p q)
    count_with k p q low = by (get same_places m (p, q)) refl
      where
        more : Sums → Sums
        more v = with_more v (waiting_at cells p q)

        told : (r : Option Sums) → get same_places m (p, q) ≡ r → count_at k (rows_with cells m) p q ≡ unwrap_or (option_map (part k) (option_map more r)) 0
        told r at = ap (λ o. unwrap_or (option_map (part k) o) 0) (lookup_with cells (p, q) m.entries ∙ ap (option_map more) at)

        by : (r : Option Sums) → get same_places m (p, q) ≡ r → count_at k (rows_with cells m) p q ≡ count_at k m p q + waiting_of k (waiting_at cells p q)
        by None at =
            let none = are.there p q low (λ j. count_at-none m j p q at) in
            let nothing : waiting_at cells p q ≡ 0 = omega (arith, none.0, none.1) in
            let zero_of : waiting_of k (waiting_at cells p q) ≡ 0 = ap (waiting_of k) nothing ∙ waiting_of-zero k in
            omega (arith, told None at, zero_of, count_at-none m k p q at)
        by (Some v) at = omega (arith, told (Some v) at, part_more k v (waiting_at cells p q), count_at-there m k p q v at)

    pub AreRows_with : AreRows (rows_with cells m)
    AreRows_with = AreRows-grown m (rows_with cells m) are.rows (λ k p q low. let is = count_with k p q low in omega (arith, is)) keys_with

    -- there is room in the rows where there is room with what waits for them
    pub room_within : (k : Part) (p q n : ℕ) → p ≤ q → count_at k (rows_with cells m) p q + n < 2 ^ 64 → count_at k m p q + n < 2 ^ 64
    room_within k p q n low room = let is = count_with k p q low in omega (arith, is, room)

-- So many candidates more wait for a row that is known.
module _ {S : Type 0} (old new : List (Vec ℕ Global)) (m : IndexMap (ℕ × ℕ) Sums S) (a b n : ℕ) (are : AreWaiting old m) (known : 0 < cell_at old b a)
    (more : cell_at new b a ≡ cell_at old b a + n) (others : (p q : ℕ) → ¬ ((q ≡ b) × (p ≡ a)) → cell_at new q p ≡ cell_at old q p) where
  differ : a ≢ b
  differ is =
      let here : cell_at old b a ≡ cell_at old b b = ap (cell_at old b) is in
      omega (arith, are.apart b, here, known)

  -- the cell, by whatever names its places have
  raised_at : (p q : ℕ) → b ≡ q → a ≡ p → (cell_at new q p ≡ cell_at old q p + n) × (0 < cell_at old q p)
  raised_at p q second first =
      subst (λ (y : ℕ). (cell_at new y p ≡ cell_at old y p + n) × (0 < cell_at old y p)) second
      (subst (λ (x : ℕ). (cell_at new b x ≡ cell_at old b x + n) × (0 < cell_at old b x)) first (more, known))

  waiting_more : (p q : ℕ) → waiting_at new p q ≡ waiting_at old p q + (if is_between p q a b then n else 0)
  waiting_more p q =
      elim (cases_Bool (is_between p q a b)) [
        | inl here ↦
            elim (between_cases p q a b here) [
              | inl e ↦
                  let one = raised_at p q e.1 e.0 in
                  let other = others q p (λ both. differ (e.0 ∙ both.0)) in
                  rw here (omega (arith, one.0, one.1, other))
              | inr e ↦
                  let one = raised_at q p e.1 e.0 in
                  let other = others p q (λ both. differ (e.0 ∙ both.0)) in
                  rw here (omega (arith, one.0, one.1, other))
            ]
        | inr not_so ↦
            let one = others p q (λ both. true≢false (sym (between_from p q a b (sym both.1) (sym both.0)) ∙ not_so)) in
            let other = others q p (λ both. true≢false (sym (between_turned p q a b (sym both.1) (sym both.0)) ∙ not_so)) in
            rw not_so (omega (arith, one, other))
      ]

  module _ (room : (p q : ℕ) → p ≤ q → count_at of_candidates (rows_with old m) p q + n < 2 ^ 64) where
    pub raised : AreWaiting new m
    raised = record {
      rows = are.rows;
      there = λ p q low none.
          let was = are.there p q low none in (
            others q p (λ both. let here = raised_at q p (sym both.0) (sym both.1) in omega (arith, was.0, here.1)) ∙ was.0,
            others p q (λ both. let here = raised_at p q (sym both.0) (sym both.1) in omega (arith, was.1, here.1)) ∙ was.1,
          );
      apart = λ p. others p p (λ both. differ (sym both.1 ∙ both.0)) ∙ are.apart p;
      fits = λ p q low.
          let is = count_with old m are of_candidates p q low in
          let less = if_le (is_between p q a b) n in
          omega (arith, is, waiting_more p q, less, room p q low);
    }

    pub count_raised : (s : Sums) → ((k : Part) → part k s ≡ waiting_of k n) → (k : Part) (p q : ℕ) → p ≤ q
        → count_at k (rows_with new m) p q ≡ count_at k (rows_with old m) p q + (if is_between p q a b then part k s else 0)
    count_raised s is k p q low =
        let now = count_with new m raised k p q low in
        let was = count_with old m are k p q low in
        let grown = ap (waiting_of k) (waiting_more p q) ∙ waiting_of-plus k (waiting_at old p q) n (is_between p q a b) in
        let same = ap (λ (x : ℕ). if is_between p q a b then x else 0) (is k) in
        omega (arith, now, was, grown, same)

-- The rows `t` count more than `m`, and the row of these places may be known now.
module _ {S : Type 0} (old new : List (Vec ℕ Global)) (m t : IndexMap (ℕ × ℕ) Sums S) (a b : ℕ) (s : Sums) (are : AreWaiting old m) (rows : AreRows t)
    (some : (k : Part) × (0 < part k s))
    (counts : (k : Part) (p q : ℕ) → p ≤ q → count_at k t p q ≡ count_at k m p q + (if is_between p q a b then part k s else 0))
    (room : (k : Part) (p q : ℕ) → p ≤ q → count_at k (rows_with old m) p q + part k s < 2 ^ 64)
    (opened : (p q : ℕ) → (cell_at new q p ≡ cell_at old q p) ⊎ ((q ≡ b) × (p ≡ a) × (q ≢ p) × (cell_at old q p ≡ 0) × (cell_at new q p ≡ 1))) where
  one_same : (p q : ℕ) → cell_at new q p - 1 ≡ cell_at old q p - 1
  one_same p q = elim (opened p q) [ inl same ↦ ap (λ (n : ℕ). n - 1) same | inr e ↦ let was = e.3 in let is = e.4 in omega (arith, was, is) ]

  waiting_same : (p q : ℕ) → waiting_at new p q ≡ waiting_at old p q
  waiting_same p q = let one = one_same p q in let other = one_same q p in omega (arith, one, other)

  -- the row of the places is there
  has_row : (p q : ℕ) → p ≤ q → is_between p q a b ≡ true → ((k : Part) → count_at k t p q ≡ 0) → ⊥
  has_row p q low at none =
      let grown = counts some.0 p q low ∙ ap (λ (x : Bool). count_at some.0 m p q + (if x then part some.0 s else 0)) at in
      omega (arith, grown, none some.0, some.1)

  pub opened_are : AreWaiting new t
  opened_are = record {
    rows = rows;
    there = λ p q low none.
        let was = are.there p q low (λ k. let grown = counts k p q low in omega (arith, grown, none k)) in (
          elim (opened q p) [ inl same ↦ same ∙ was.0 | inr e ↦ absurd (has_row p q low (between_turned p q a b (sym e.1) (sym e.0)) none) ],
          elim (opened p q) [ inl same ↦ same ∙ was.1 | inr e ↦ absurd (has_row p q low (between_from p q a b (sym e.1) (sym e.0)) none) ],
        );
    apart = λ p. elim (opened p p) [ inl same ↦ same ∙ are.apart p | inr e ↦ absurd (e.2 refl) ];
    fits = λ p q low.
        let is = count_with old m are of_candidates p q low in
        let less = if_le (is_between p q a b) (part of_candidates s) in
        omega (arith, is, counts of_candidates p q low, waiting_same p q, less, room of_candidates p q low);
  }

  pub count_opened : (k : Part) (p q : ℕ) → p ≤ q
      → count_at k (rows_with new t) p q ≡ count_at k (rows_with old m) p q + (if is_between p q a b then part k s else 0)
  count_opened k p q low =
      let now = count_with new t opened_are k p q low in
      let was = count_with old m are k p q low in
      let same = ap (waiting_of k) (waiting_same p q) in
      omega (arith, now, was, same, counts k p q low)

-- rows with the same entries, of which as many wait
module _ {S : Type 0} (old new : List (Vec ℕ Global)) (m t : IndexMap (ℕ × ℕ) Sums S) (are : AreWaiting old m) (is : t.entries ≡ m.entries)
    (same : (p q : ℕ) → cell_at new q p ≡ cell_at old q p) where
  same_count : (k : Part) (p q : ℕ) → count_at k t p q ≡ count_at k m p q
  same_count k p q = ap (λ (es : List ((ℕ × ℕ) × Sums)). unwrap_or (option_map (part k) (lookup (same_places (p, q)) es)) 0) is

  pub unchanged_are : AreWaiting new t
  unchanged_are = record {
    rows = AreRows-grown m t are.rows (λ k p q low. let here = same_count k p q in omega (arith, here)) (ap keys_of is);
    there = λ p q low none.
        let was = are.there p q low (λ k. sym (same_count k p q) ∙ none k) in
        (same q p ∙ was.0, same p q ∙ was.1);
    apart = λ p. same p p ∙ are.apart p;
    fits = λ p q low.
        let here = same_count of_candidates p q in
        let one = same p q in
        let other = same q p in
        omega (arith, here, one, other, are.fits p q low);
  }

-- no rows yet
module _ {S : Type 0} (cells : List (Vec ℕ Global)) (m : IndexMap (ℕ × ℕ) Sums S) (empty : m.entries ≡ []) (none : (p q : ℕ) → cell_at cells q p ≡ 0) where
  pub begun_are : AreWaiting cells m
  begun_are = record {
    rows = record {
      rising = All-same (λ (e : ℕ × ℕ). e.0 ≤ e.1) (keys m) [] (ap keys_of empty) (All-nil (λ (e : ℕ × ℕ). e.0 ≤ e.1));
      counted = λ p q there. absurd (nothing_there p q (subst (λ (ks : List (ℕ × ℕ)). Contains ks (p, q)) (ap keys_of empty) there));
    };
    there = λ p q low all. (none q p, none p q);
    apart = λ p. none p p;
    fits = λ p q low. let zero_at = nothing p q in let one = none p q in let other = none q p in omega (arith, zero_at, one, other);
  }
    where
      nothing : (p q : ℕ) → count_at of_candidates m p q ≡ 0
      nothing p q = ap (λ (es : List ((ℕ × ℕ) × Sums)). unwrap_or (option_map (part of_candidates) (lookup (same_places (p, q)) es)) 0) empty

      nothing_there : (p q : ℕ) → ¬ Contains {X = ℕ × ℕ} [] (p, q)
      nothing_there p q there = let within = there.1 in omega (arith, within)

  pub begun_empty : (rows_with cells m).entries ≡ []
  begun_empty = ap (map (entry_with cells)) empty
