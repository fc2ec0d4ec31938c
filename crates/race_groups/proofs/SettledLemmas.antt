-- Rows to which what waits for them is added one after the other.
use Rattle.std.proofs.Common.{◌≡◌, ℕ, zero, suc, ◌+◌, ◌<◌, ◌^◌, List, [], ◌∷◌, map, length, Some, Vec, refl, sym, ap, ◌∙◌, arith}
use Rattle.std.specs.List.{slice_get}
use Rattle.std.specs.Map.{lookup}
use Rattle.std.specs.declared.alloc.Global.{Global}
use Rattle.std.proofs.lemmas.Option.{same_Some}
use Rattle.indexmap.specs.IndexMap.{IndexMap, IsUnique, get, set_value_at}
use Rattle.indexmap.proofs.CallerLemmas.{updates-with_value_at}
use Rattle.race_groups.specs.Rows.{of_candidates, same_places}
use Rattle.race_groups.specs.Waiting.{AreWaiting, entry_with, waiting_at, with_more}
use Rattle.race_groups.specs.declared.rows.Sums.{Sums}
use Rattle.race_groups.proofs.RowLemmas.{count_at-there, rises_at, same_places-equiv}

module _ (cells : List (Vec ℕ Global)) where
  -- the first n rows have what waits for them
  abbrev pub settled : ℕ → List ((ℕ × ℕ) × Sums) → List ((ℕ × ℕ) × Sums)
  settled n [] = []
  settled zero (e ∷ es) = e ∷ es
  settled (suc n) (e ∷ es) = entry_with cells e ∷ settled n es

  pub settled-none : (es : List ((ℕ × ℕ) × Sums)) → settled 0 es ≡ es
  settled-none [] = refl
  settled-none (e ∷ es) = refl

  pub settled-all : (es : List ((ℕ × ℕ) × Sums)) → settled (length es) es ≡ map (entry_with cells) es
  settled-all [] = refl
  settled-all (e ∷ es) = ap (λ xs. entry_with cells e ∷ xs) (settled-all es)

  pub length-settled : (i : ℕ) (es : List ((ℕ × ℕ) × Sums)) → length (settled i es) ≡ length es
  length-settled i [] = refl
  length-settled zero (e ∷ es) = refl
  length-settled (suc i) (e ∷ es) = ap suc (length-settled i es)

  -- the next row has not
  pub settled-at : (i : ℕ) (es : List ((ℕ × ℕ) × Sums)) → slice_get (settled i es) i ≡ slice_get es i
  settled-at i [] = refl
  settled-at zero (e ∷ es) = refl
  settled-at (suc i) (e ∷ es) = settled-at i es

  pub settled-next : (i : ℕ) (es : List ((ℕ × ℕ) × Sums)) (e : (ℕ × ℕ) × Sums) → slice_get es i ≡ Some e
      → set_value_at (settled i es) i (with_more e.1 (waiting_at cells e.0.0 e.0.1)) ≡ settled (suc i) es
  settled-next i [] e at = refl
  settled-next zero (x ∷ es) e at =
      ap (λ (y : (ℕ × ℕ) × Sums). (x.0, with_more y.1 (waiting_at cells y.0.0 y.0.1)) ∷ es) (sym (same_Some x e at))
      ∙ ap (λ xs. entry_with cells x ∷ xs) (sym (settled-none es))
  settled-next (suc i) (x ∷ es) e at = ap (λ xs. entry_with cells x ∷ xs) (settled-next i es e at)

set_own : {X : Type 0} (es : List ((ℕ × ℕ) × X)) (i : ℕ) (k : ℕ × ℕ) (v : X) → slice_get es i ≡ Some (k, v) → set_value_at es i v ≡ es
set_own [] i k v at = refl
set_own {X = X} (e ∷ es) zero k v at = ap (λ (x : (ℕ × ℕ) × X). (e.0, x.1) ∷ es) (sym (same_Some e (k, v) at))
set_own (e ∷ es) (suc i) k v at = ap (λ xs. e ∷ xs) (set_own es i k v at)

module _ {S : Type 0} (m : IndexMap (ℕ × ℕ) Sums S) (once : IsUnique same_places m) (i : ℕ) (e : (ℕ × ℕ) × Sums) (at : slice_get m.entries i ≡ Some e) where
  -- the row at a place is found by its own places
  pub own_row : get same_places m e.0 ≡ Some e.1
  own_row =
      let found = updates-with_value_at m i e.1 same_places-equiv once e.0 e.1 at in
      ap (lookup (same_places e.0)) (sym (set_own m.entries i e.0 e.1 at)) ∙ found.1

  pub can_settle : (cells : List (Vec ℕ Global)) → AreWaiting cells m → e.1.candidates + waiting_at cells e.0.0 e.0.1 < 2 ^ 64
  can_settle cells are =
      let low = rises_at m are.rows i e.0 e.1 at in
      let there = count_at-there m of_candidates e.0.0 e.0.1 e.1 own_row in
      let fits = are.fits e.0.0 e.0.1 low in
      omega (arith, there, fits)
