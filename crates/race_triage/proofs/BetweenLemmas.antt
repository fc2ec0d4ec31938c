-- The row of two places, and how many pairs of places there are of three.
use Rattle.std.proofs.Common.{◌≡◌, ◌≢◌, ℕ, ◌+◌, ◌*◌, ◌<◌, false, List, All, AllPairs, Contains, length, get_or, Some, sym, ap, ◌∙◌, inl, inr, arith}
use Rattle.std.specs.List.{slice_get}
use Rattle.std.proofs.lemmas.Bool.{true≢false}
use Rattle.std.proofs.lemmas.List.Elements.{All-get_or}
use Rattle.std.proofs.lemmas.List.FromFn.{get_or-range_with_len, length-range_with_len}
use Rattle.std.proofs.lemmas.Option.{slice_get-get_or}
use Rattle.rapid_text.specs.declared.event.Event.{Event}
use Rattle.event_index.specs.Lookups.{before}
use Rattle.race_groups.specs.Found.{AreComplete, AreTooMany, HaveConflict}
use Rattle.race_groups.specs.Groups.{is_between}
use Rattle.race_groups.specs.declared.kinds.Row.{Row}
use Rattle.race_groups.proofs.RowLemmas.{between_cases}
use Rattle.race_groups.proofs.least_pairs.BetweenLemmas.{between_here, between_over}
use Rattle.race_triage.proofs.OnceLemmas.{distinct-le}

-- where no row is of two places, no two events there conflict
pub no_conflict : (T : List Event) (place : ℕ → ℕ) (rows : List Row) (between : ℕ × ℕ) → AreComplete T place rows
    → ((at : ℕ) (row : Row) → slice_get rows at ≡ Some row → is_between row.places.0 row.places.1 between.0 between.1 ≡ false)
    → ¬ HaveConflict T place between
no_conflict T place rows between complete none have =
    let found = complete have.first have.second have.earlier have.conflict in
    let p = place have.first in
    let q = place have.second in
    let over = between_over found.row.places.0 found.row.places.1 between.0 between.1 p q between.0 between.1 found.between have.between (between_here between.0 between.1) in
    true≢false (sym over ∙ none found.at found.row found.is)

-- two numbers below three as one below nine
abbrev code : ℕ × ℕ → ℕ
code p = p.0 * 3 + p.1

module _ (T : List Event) (place : ℕ → ℕ) (few : (e : ℕ) → place e < 3) where
  within : (p : ℕ × ℕ) → HaveConflict T place p → (p.0 < 3) × (p.1 < 3)
  within p have = elim (between_cases p.0 p.1 (place have.first) (place have.second) have.between) [
    | inl is ↦ (omega (arith, is.0, few have.first), omega (arith, is.1, few have.second))
    | inr is ↦ (omega (arith, is.1, few have.second), omega (arith, is.0, few have.first))
  ]

  -- three places have at most nine pairs
  pub few_pairs : (limit : ℕ) → AreTooMany T place limit → limit < 9
  few_pairs limit many =
      let xs = many.places in
      let low : (i : ℕ) (d : ℕ × ℕ) → i < length xs → ((get_or xs i d).0 < 3) × ((get_or xs i d).1 < 3) =
      λ i d lt. within (get_or xs i d) (All-get_or (HaveConflict T place) xs i d lt many.conflicts) in
      let apart : AllPairs (λ (p q : ℕ × ℕ). code p ≢ code q) xs =
      λ i j d lt le same.
      let p = get_or xs i d in
      let q = get_or xs j d in
      let one = low i d (omega (arith, lt, le)) in
      let other = low j d le in
      let first : p.0 ≡ q.0 = omega (arith, one.0, one.1, other.0, other.1, same) in
      let second : p.1 ≡ q.1 = omega (arith, one.0, one.1, other.0, other.1, same) in
      let equal : p ≡ q = ap (λ (x : ℕ). (x, p.1)) first ∙ ap (λ (y : ℕ). (q.0, y)) second in
      let here = slice_get-get_or xs i d (omega (arith, lt, le)) in
      let there = slice_get-get_or xs j d le ∙ ap Some (sym equal) in
      let at : i ≡ j = many.once i j p here there in
      omega (arith, at, lt)
      in
      let all : All (λ (p : ℕ × ℕ). Contains (before 9) (code p)) xs =
      λ i d lt.
      let one = low i d lt in
      let n = code (get_or xs i d) in
      let small : n < 9 = omega (arith, one.0, one.1) in
      (n, omega (arith, small, length-range_with_len 0 9), get_or-range_with_len 0 9 n n small ∙ omega arith)
      in
      let le = distinct-le code xs (before 9) apart all in
      omega (arith, le, many.more, length-range_with_len 0 9)
