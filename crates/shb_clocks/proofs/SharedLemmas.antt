-- Shared rows, with more kept, and with one row or event more.
use Rattle.std.proofs.Common.{◌<◌, List, [], ◌∷◌, ◌++◌, length, get_or, sym, subst, arith, inl, inr}
use Rattle.std.proofs.lemmas.Bool.{cases_lt}
use Rattle.std.proofs.lemmas.List.{length_push, get_or_append_left, get_or_push}
use Rattle.shb_clocks.specs.Kept.{Lists, IsPlace, IsMore}
use Rattle.shb_clocks.specs.SharedLayout.{AreShared}
use Rattle.shb_clocks.specs.SharedRows.{no_row, no_spot}
use Rattle.shb_clocks.specs.declared.shared_rows.Row.{Row}
use Rattle.shb_clocks.specs.declared.shared_rows.Spot.{Spot}

module _ (spots : List Spot) (rows : List Row) (kept : Lists) (are : AreShared spots rows kept) where
  pub AreShared-kept : (more : Lists) → IsMore kept more → AreShared spots rows more
  AreShared-kept more is = record {
    each_spot = are.each_spot;
    each_row = λ k low. is.place (get_or rows k no_row).place (are.each_row k low);
  }

  pub AreShared-row : (row : Row) → IsPlace kept row.place → AreShared spots (rows ++ row ∷ []) kept
  AreShared-row row place = record {
    each_spot = λ e low. omega (arith, are.each_spot e low, length_push rows row);
    each_row = λ k low.
        elim (cases_lt k (length rows)) [
          | inl old ↦ subst (λ (r : Row). IsPlace kept r.place) (sym (get_or_append_left rows (row ∷ []) no_row k old)) (are.each_row k old)
          | inr late ↦
              subst (λ (r : Row). IsPlace kept r.place) (sym (get_or_push rows row no_row k (omega (arith, low, late, length_push rows row)))) place
        ];
  }

  pub AreShared-spot : (spot : Spot) → spot.row < length rows → AreShared (spots ++ spot ∷ []) rows kept
  AreShared-spot spot within = record {
    each_spot = λ e low.
        elim (cases_lt e (length spots)) [
          | inl old ↦ subst (λ (s : Spot). s.row < length rows) (sym (get_or_append_left spots (spot ∷ []) no_spot e old)) (are.each_spot e old)
          | inr late ↦
              subst (λ (s : Spot). s.row < length rows) (sym (get_or_push spots spot no_spot e (omega (arith, low, late, length_push spots spot)))) within
        ];
    each_row = are.each_row;
  }
