-- What the entries of rows count.
use Rattle.std.proofs.Common.{◌≡◌, ℕ, ◌+◌, ◌<◌, ◌≤◌, ◌==◌, ◌&&◌, ◌||◌, true, false, cond, List, [], ◌∷◌, ◌++◌, take, sum_by, Some, refl, sym, ap, ◌∙◌, inl, inr, arith}
use Rattle.std.specs.Bool.{if◌then◌else◌}
use Rattle.std.specs.List.{slice_get, IsDistinct}
use Rattle.std.specs.Map.{keys_of, lookup}
use Rattle.std.proofs.lemmas.Map.{NonePasses}
use Rattle.std.specs.Option.{unwrap_or, option_map}
use Rattle.std.proofs.lemmas.Bool.{cases_Bool, cond-true, cond-false, eq-eqb, false_from_ne_true, true≢false}
use Rattle.std.proofs.lemmas.List.{take_more}
use Rattle.std.proofs.lemmas.List.Sums.{sum_by-cons, sum_by_push}
use Rattle.std.proofs.lemmas.Map.Keys.{IsDistinct-tail}
use Rattle.std.proofs.lemmas.Map.Entries.{lookup_head, lookup_tail, none_past_head}
use Rattle.std.proofs.lemmas.Option.{slice_get_within, get_or_from_slice_get, slice_get-map}
use Rattle.indexmap.specs.IndexMap.{IndexMap, IsUnique, get, keys}
use Rattle.race_groups.specs.Groups.{is_between}
use Rattle.race_groups.specs.Rows.{Part, part, same_places, count_at, entry_count, entries_count, AreRows}
use Rattle.race_groups.specs.declared.rows.Sums.{Sums}
use Rattle.race_groups.proofs.RowLemmas.{between_one, count_at-there, same_places_are, are_same_places, same_places-equiv}

-- two rising pairs of places
pub entry_between : (p q a b n : ℕ) → p ≤ q → a ≤ b → (if is_between p q a b then n else 0) ≡ cond (same_places (p, q) (a, b)) n 0
entry_between p q a b n low high =
    elim (cases_Bool (same_places (p, q) (a, b))) [
      | inl same ↦
          let is = same_places_are (p, q) (a, b) same in
          let here : is_between p q a b ≡ true = ap (λ (e : ℕ × ℕ). is_between e.0 e.1 a b) is ∙ self a b in
          rw here (sym (cond-true (same_places (p, q) (a, b)) n 0 same))
      | inr apart ↦
          let none : is_between p q a b ≡ false =
          false_from_ne_true (is_between p q a b)
          (λ at.
          let one = between_one p q a b a b low high at (self a b) in
          true≢false (sym (are_same_places (p, q) (a, b) (ap (λ x. (x, q)) one.0 ∙ ap (λ y. (a, y)) one.1)) ∙ apart))
          in rw none (sym (cond-false (same_places (p, q) (a, b)) n 0 apart))
    ]
  where
    self : (a b : ℕ) → is_between a b a b ≡ true
    self a b = ap (λ x. x && (b == b) || (a == b && b == a)) (eq-eqb a a refl) ∙ ap (λ x. x || (a == b && b == a)) (eq-eqb b b refl)

-- one entry more
pub entries_more : (k : Part) (es : List ((ℕ × ℕ) × Sums)) (i p q : ℕ) (e : (ℕ × ℕ) × Sums) → slice_get es i ≡ Some e
    → entries_count k (take (i + 1) es) p q ≡ entries_count k (take i es) p q + entry_count k p q e
entries_more k es i p q e at =
    ap (sum_by (entry_count k p q)) (take_more es i e (slice_get_within es i e at) ∙ ap (λ x. take i es ++ x ∷ []) (get_or_from_slice_get es i e e at))
    ∙ sum_by_push (entry_count k p q) (take i es) e

-- no entry of these places
none_count : (k : Part) (p q : ℕ) (es : List ((ℕ × ℕ) × Sums)) → NonePasses (same_places (p, q)) es → entries_count k es p q ≡ 0
none_count k p q [] none = refl
none_count k p q (e ∷ es) none =
    omega (arith, sum_by-cons (entry_count k p q) e es, cond-false (same_places (p, q) e.0) (part k e.1) 0 none.0, none_count k p q es none.1)

count_lookup : (k : Part) (p q : ℕ) (es : List ((ℕ × ℕ) × Sums)) → IsDistinct same_places (keys_of es)
    → entries_count k es p q ≡ unwrap_or (option_map (part k) (lookup (same_places (p, q)) es)) 0
count_lookup k p q [] once = refl
count_lookup k p q (e ∷ es) once =
    elim (cases_Bool (same_places (p, q) e.0)) [
      | inl here ↦
          let one = cond-true (same_places (p, q) e.0) (part k e.1) 0 here in
          let rest = none_count k p q es (none_past_head same_places-equiv (p, q) e es once here) in
          let found : unwrap_or (option_map (part k) (lookup (same_places (p, q)) (e ∷ es))) 0 ≡ part k e.1 =
          ap (λ o. unwrap_or (option_map (part k) o) 0) (lookup_head (same_places (p, q)) e es here)
          in omega (arith, sum_by-cons (entry_count k p q) e es, one, rest, found)
      | inr apart ↦
          let one = cond-false (same_places (p, q) e.0) (part k e.1) 0 apart in
          let rest = count_lookup k p q es (IsDistinct-tail same_places e.0 (keys_of es) once) in
          let found : unwrap_or (option_map (part k) (lookup (same_places (p, q)) (e ∷ es))) 0 ≡ unwrap_or (option_map (part k) (lookup (same_places (p, q)) es)) 0 =
          ap (λ o. unwrap_or (option_map (part k) o) 0) (lookup_tail (same_places (p, q)) e es apart)
          in omega (arith, sum_by-cons (entry_count k p q) e es, one, rest, found)
    ]

-- all of them count what the rows count
pub count_at-entries : {S : Type 0} (m : IndexMap (ℕ × ℕ) Sums S) → IsUnique same_places m → (k : Part) (p q : ℕ) → entries_count k m.entries p q ≡ count_at k m p q
count_at-entries m once k p q = count_lookup k p q m.entries once

-- each entry counts something
pub counts_at : {S : Type 0} (m : IndexMap (ℕ × ℕ) Sums S) → AreRows m → (i : ℕ) (key : ℕ × ℕ) (v : Sums) → slice_get m.entries i ≡ Some (key, v) → get same_places m key ≡ Some v
    → (k : Part) × (0 < part k v)
counts_at m are i key v at found =
    let there : slice_get (keys m) i ≡ Some key = slice_get-map (λ (e : (ℕ × ℕ) × Sums). e.0) m.entries i ∙ ap (option_map (λ (e : (ℕ × ℕ) × Sums). e.0)) at in
    let some = are.counted key.0 key.1 (i, slice_get_within (keys m) i key there, get_or_from_slice_get (keys m) i key key there) in
    let is = count_at-there m some.0 key.0 key.1 v found in
    (some.0, omega (arith, is, some.1))
