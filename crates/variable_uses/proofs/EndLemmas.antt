-- The rows of a race, one event further.
use Rattle.std.proofs.Common.{◌≡◌, ℕ, ◌+◌, ◌<◌, ◌&&◌, Bool, true, false, List, set, length, slice_index, sym, ap, ◌∙◌, arith, inl, inr, eq-eqb, get_or-set_other, get_or-set_same}
use Rattle.std.specs.List.{slice_index_or}
use Rattle.std.proofs.lemmas.Bool.{cases_eq, and_from, and_left, and_right, ne_eqb}
use Rattle.variable_uses.specs.Numbers.{has_number}
use Rattle.variable_uses.specs.Ends.{AreNamedBefore}
use Rattle.variable_uses.proofs.NumberLemmas.{any_more_no, any_more_yes}

module _ (numbers : List ℕ) (named : List Bool) (n : ℕ) (flags : List Bool) (are : AreNamedBefore numbers named n flags) where
  -- an event that no row has, or that is not named
  pub AreNamedBefore-none : slice_index numbers n ≡ 0 → AreNamedBefore numbers named (n + 1) flags
  AreNamedBefore-none zero_there k lt =
      are k lt ∙ sym (any_more_no (λ e. slice_index_or named e false && has_number numbers k e) n (and_right (slice_index_or named n false) (has_number numbers k n) (ne_eqb (slice_index numbers n) (k + 1) (omega (arith, zero_there)))))

  pub AreNamedBefore-other : slice_index_or named n false ≡ false → AreNamedBefore numbers named (n + 1) flags
  AreNamedBefore-other unnamed k lt =
      are k lt ∙ sym (any_more_no (λ e. slice_index_or named e false && has_number numbers k e) n (and_left (slice_index_or named n false) (has_number numbers k n) unnamed))

  -- one that is named
  pub AreNamedBefore-one : (row : ℕ) (after : List Bool) → slice_index numbers n ≡ row + 1 → row < length flags → slice_index_or named n false ≡ true → after ≡ set flags row true → length after ≡ length flags → AreNamedBefore numbers named (n + 1) after
  AreNamedBefore-one row after is within is_named put len k lt = elim (cases_eq k row) [
    | inl same ↦
        ap (λ xs. slice_index_or xs k false) put ∙ ap (λ j. slice_index_or (set flags row true) j false) same ∙ get_or-set_same flags row true false within
        ∙ sym (any_more_yes (λ e. slice_index_or named e false && has_number numbers k e) n (and_from (slice_index_or named n false) (has_number numbers k n) is_named (eq-eqb (slice_index numbers n) (k + 1) (is ∙ ap (λ r. r + 1) (sym same)))))
    | inr other ↦
        ap (λ xs. slice_index_or xs k false) put ∙ get_or-set_other flags row k true false other ∙ are k (omega (arith, lt, len))
        ∙ sym (any_more_no (λ e. slice_index_or named e false && has_number numbers k e) n (and_right (slice_index_or named n false) (has_number numbers k n) (ne_eqb (slice_index numbers n) (k + 1) (omega (arith, is, other)))))
  ]
