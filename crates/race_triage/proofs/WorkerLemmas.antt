-- Parts of the verdicts, put together.
use Rattle.std.proofs.Common.{◌≡◌, ℕ, ◌<◌, ◌%◌, Bool, List, ◌++◌, All, Contains, length, slice_index_or, sym, subst}
use Rattle.std.proofs.lemmas.List.Elements.{All-append, Contains-append_left, Contains-append_right}
use Rattle.std.proofs.lemmas.Option.{slice_get_within, get_or_from_slice_get}
use Rattle.rapid_text.specs.Recording.{Recording}
use Rattle.race_groups.specs.Found.{AreComplete}
use Rattle.race_groups.specs.declared.kinds.Row.{Row}
use Rattle.race_groups.specs.least_pairs.Pairs.{AreAt}
use Rattle.race_triage.specs.Verdicts.{IsVerdict, IsAnswered, AreAllTold, ArePart, AreWhole}
use Rattle.race_triage.specs.declared.verdicts.Verdict.{Verdict}

module _ (r : Recording) (place : ℕ → ℕ) where
  pub IsAnswered-weaker : (vs ws : List Verdict) (row : Row) → ((v : Verdict) → Contains vs v → Contains ws v) → IsAnswered vs row → IsAnswered ws row
  IsAnswered-weaker vs ws row kept is = (is.0, kept is.0 is.1, is.2)

  -- a part behind what there is
  module _ (tries : ℕ) (apart : Bool) (rows : List Row) (from every : ℕ) (old part new : List Verdict) (is : new ≡ old ++ part) where
    pub all_added : All (IsVerdict r place tries apart) old → ArePart r place tries apart rows from every part → All (IsVerdict r place tries apart) new
    all_added all some = subst (All (IsVerdict r place tries apart)) (sym is) (All-append (IsVerdict r place tries apart) old part all some.verdicts)

    pub part_answered : ArePart r place tries apart rows from every part → (k : ℕ) (d : Row) → k < length rows → k % every ≡ from → IsAnswered new (slice_index_or rows k d)
    part_answered some k d lt own =
        IsAnswered-weaker part new (slice_index_or rows k d)
        (λ v there. subst (λ (vs : List Verdict). Contains vs v) (sym is) (Contains-append_right old part v there))
        (some.answered k d lt own)

    pub all_kept : (v : Verdict) → Contains old v → Contains new v
    all_kept v there = subst (λ (vs : List Verdict). Contains vs v) (sym is) (Contains-append_left old part v there)

  -- where each row is answered, and each conflicting pair has a row, each conflicting pair has its verdict
  pub AreAllTold-from : (tries : ℕ) (apart : Bool) (rows : List Row) (vs : List Verdict) → AreComplete r.events place rows → AreWhole r place tries apart rows vs → AreAllTold r.events place vs
  AreAllTold-from tries apart rows vs counted whole a b pair =
      let found = counted a b pair.earlier pair.conflict in
      let row : Row = found.row in
      let lt = slice_get_within rows found.at row found.is in
      let same : slice_index_or rows found.at row ≡ row = get_or_from_slice_get rows found.at row row found.is in
      let answered = subst (λ (w : Row). IsAnswered vs w) same (whole.answered found.at row lt) in
      (answered.0, answered.1, subst (λ (w : Row). AreAt place w.places a b) (sym answered.2) found.between)
