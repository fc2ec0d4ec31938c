-- How many steps of a search are left.
use Rattle.std.proofs.Common.{◌≡◌, ℕ, zero, suc, ◌+◌, ◌-◌, ◌≤◌, ◌++◌, ◌∷◌, [], List, length, None, sym, ap, ◌∙◌, arith}
use Rattle.std.proofs.lemmas.List.{length-append}
use Rattle.rapid_text.specs.declared.event.Event.{Event}
use Rattle.witness_search.specs.Greedy.{after_steps, followed_by, next_step}
use Rattle.witness_search.proofs.StepLemmas.{IsSearched}

pub longer_by_one : (xs : List ℕ) (e n : ℕ) → length xs ≡ n → length (xs ++ e ∷ []) ≡ n + 1
longer_by_one xs e n is = length-append xs (e ∷ []) ∙ ap (λ m. m + 1) is

module _ (T : List Event) (a b : ℕ) (N P : List ℕ) (k : ℕ) (Q : List ℕ) (is : IsSearched T a b N P k Q) where
  -- where no step can be taken, none is
  pub stays : next_step T a b N Q ≡ None → (j : ℕ) → after_steps T a b N P (k + j) ≡ Q
  unfolding after_steps
  stays none zero = ap (after_steps T a b N P) (omega arith) ∙ is.here
  stays none (suc j) =
      let one : k + suc j ≡ suc (k + j) = omega arith in
      ap (after_steps T a b N P) one ∙ ap (λ R. followed_by R (next_step T a b N R)) (stays none j) ∙ ap (followed_by Q) none

  pub left_stuck : length Q ≡ length P + k → next_step T a b N Q ≡ None → (budget left : ℕ) → k ≤ budget → left ≡ budget - k
      → length (after_steps T a b N P budget) + left ≡ length P + budget
  left_stuck long none budget left low rest =
      let whole : budget ≡ k + (budget - k) = omega (arith, low) in
      let same : length (after_steps T a b N P budget) ≡ length Q =
      ap (λ n. length (after_steps T a b N P n)) whole ∙ ap (λ (R : List ℕ). length R) (stays none (budget - k)) in
      omega (arith, same, long, low, rest)

  pub left_end : length Q ≡ length P + k → (budget : ℕ) → k ≡ budget → length (after_steps T a b N P budget) + 0 ≡ length P + budget
  left_end long budget end =
      let same : length (after_steps T a b N P budget) ≡ length Q =
      ap (λ n. length (after_steps T a b N P n)) (sym end) ∙ ap (λ (R : List ℕ). length R) is.here in
      omega (arith, same, long, end)
