-- Sums over each two of some numbers, of what does not matter in which order: each two at the greater of them, for both.
use Rattle.std.proofs.Common.{◌≡◌, ℕ, zero, suc, ◌+◌, ◌*◌, ◌<◌, ◌≤◌, ◌==◌, nat_lt, Bool, true, false, cond, sum_by, refl, sym, ◌∙◌, arith}
use Rattle.std.proofs.lemmas.Bool.{cond-false, cond-true, eq-eqb, ne_eqb, lt-ltb, le-ltb}
use Rattle.event_index.specs.Lookups.{before}
use Rattle.race_groups.specs.Totals.{at_greater}
use Rattle.race_groups.proofs.DoubledLemmas.{sum_by-times}
use Rattle.race_groups.proofs.SumLemmas.{sum_by_below, sum_by_below_suc, sum_by_each, sum_by-plus}

pick_none : (b d : Bool) → ◌≡◌ {A = ℕ} (cond b 0 (cond d 0 0)) 0
pick_none true d = refl
pick_none false true = refl
pick_none false false = refl

pub greater_nothing : (j c : ℕ) → at_greater j c 0 ≡ 0
greater_nothing j c = pick_none (nat_lt c j) (c == j)

pick_le : (b d : Bool) (n : ℕ) → cond b (2 * n) (cond d n 0) ≤ n * 2
pick_le true d n = omega arith
pick_le false true n = omega arith
pick_le false false n = omega arith

pub greater_le : (j c n : ℕ) → at_greater j c n ≤ n * 2
greater_le j c n = pick_le (nat_lt c j) (c == j) n

-- a condition before it or behind it
pub greater_if : (b : Bool) (j c n : ℕ) → cond b (at_greater j c n) 0 ≡ at_greater j c (cond b n 0)
greater_if true j c n = refl
greater_if false j c n = sym (greater_nothing j c)

pub greater_below : (j c n : ℕ) → c < j → at_greater j c n ≡ n * 2
greater_below j c n lt = cond-true (nat_lt c j) (2 * n) (cond (c == j) n 0) (lt-ltb c j lt) ∙ omega arith

pub greater_same : (j n : ℕ) → at_greater j j n ≡ n
greater_same j n = cond-false (nat_lt j j) (2 * n) (cond (j == j) n 0) (le-ltb j j (omega arith)) ∙ cond-true (j == j) n 0 (eq-eqb j j refl)

pub greater_above : (j c n : ℕ) → j < c → at_greater j c n ≡ 0
greater_above j c n lt = cond-false (nat_lt c j) (2 * n) (cond (c == j) n 0) (le-ltb c j (omega arith)) ∙ cond-false (c == j) n 0 (ne_eqb c j (λ e. absurd (omega arith)))

module _ (f : ℕ → ℕ → ℕ) (turned : (j c : ℕ) → f j c ≡ f c j) where
  abbrev greater : ℕ → ℕ → ℕ
  greater j c = at_greater j c (f j c)

  -- the row of the last number: what it has with the others counts for both
  last_row : (n : ℕ) → sum_by (greater n) (before (suc n)) ≡ sum_by (f n) (before n) * 2 + f n n
  last_row n =
      let less : sum_by (greater n) (before n) ≡ sum_by (f n) (before n) * 2 =
      sum_by_below (greater n) (λ c. f n c * 2) n (λ c lt. greater_below n c (f n c) lt) ∙ sum_by-times (f n) 2 (before n)
      in
      let more = sum_by_below_suc (greater n) n in
      let own = greater_same n (f n n) in
      omega (arith, less, more, own)

  -- the rows before it do not meet it
  earlier_rows : (n : ℕ) → sum_by (λ j. sum_by (greater j) (before (suc n))) (before n) ≡ sum_by (λ j. sum_by (greater j) (before n)) (before n)
  earlier_rows n =
      sum_by_below (λ j. sum_by (greater j) (before (suc n))) (λ j. sum_by (greater j) (before n)) n
      (λ j lt.
      let more = sum_by_below_suc (greater j) n in
      let none = greater_above j n (f j n) lt in
      omega (arith, more, none))

  pub greater_all : (n : ℕ) → sum_by (λ j. sum_by (greater j) (before n)) (before n) ≡ sum_by (λ j. sum_by (f j) (before n)) (before n)
  greater_all zero = refl
  greater_all (suc n) =
      let row : ℕ → ℕ = λ j. sum_by (f j) (before n) in
      let wide : sum_by (λ j. sum_by (f j) (before (suc n))) (before n) ≡ sum_by row (before n) + sum_by (λ j. f j n) (before n) =
      sum_by_each (λ j. sum_by (f j) (before (suc n))) (λ j. row j + f j n) (before n) (λ j. sum_by_below_suc (f j) n) ∙ sum_by-plus row (λ j. f j n) (before n)
      in
      let turn : sum_by (λ j. f j n) (before n) ≡ row n = sum_by_each (λ j. f j n) (f n) (before n) (λ j. turned j n) in
      let last : sum_by (f n) (before (suc n)) ≡ row n + f n n = sum_by_below_suc (f n) n in
      let rest = greater_all n in
      let here = last_row n in
      let there = earlier_rows n in
      let half = sum_by_below_suc (λ j. sum_by (greater j) (before (suc n))) n in
      let whole = sum_by_below_suc (λ j. sum_by (f j) (before (suc n))) n in
      omega (arith, wide, turn, last, rest, here, there, half, whole)
