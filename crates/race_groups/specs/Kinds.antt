-- The kinds of pairs, the number of each kind in a list, and rows with these numbers for a pair of places. `r` is a
-- recording; `place` has the place of each event.
use Rattle.std.specs.Prelude.{◌≡◌, ℕ, ◌-◌, ◌/◌, ◌≤◌, Bool, true, false, List, count_by}
use Rattle.rapid_text.specs.Recording.{Recording}
use Rattle.rapid_text.specs.declared.event.Event.{Event}
use Rattle.schedule.specs.Reordering.{IsCorrectReordering}
use Rattle.schedule.specs.Shows.{Shows}
use Rattle.must_order.specs.Kinds.{IsKind}
use Rattle.must_order.specs.declared.kind.Kind.{Kind}
use Rattle.must_order.specs.declared.kind.Kind.TheVariants.{Candidate, Open, Guarded, Forced}
use Rattle.race_groups.specs.Groups.{kind_by, group_of, is_between, IsCountOf}
use Rattle.race_groups.specs.declared.kinds.Counts.{Counts}
use Rattle.race_groups.specs.declared.kinds.Row.{Row}
use Rattle.race_groups.specs.declared.rows.Sums.{Sums}

abbrev pub is_kind : Kind → Kind → Bool
is_kind Candidate Candidate = true
is_kind Open Open = true
is_kind Guarded Guarded = true
is_kind Forced Forced = true
is_kind k l = false

-- the number of pairs of the kind, from the three tests of a pair
abbrev pub kind_count : {X : Type 0} → (X → Bool) → (X → Bool) → (X → Bool) → Kind → List X → ℕ
kind_count known forced guarded k xs = count_by (λ e. is_kind k (kind_by (known e) (forced e) (guarded e))) xs

-- Each count is the number of conflicting pairs of the two places, by kind; the lesser place is the first.
pub record IsRowAt (r : Recording) (place : ℕ → ℕ) (places : ℕ × ℕ) (counts : Counts) : Type 0 where
  pub rising : places.0 ≤ places.1
  pub candidates : IsCountOf (λ e. IsKind r e.0 e.1 Candidate) (group_of r.events place places.0 places.1) counts.candidates
  pub open_pairs : IsCountOf (λ e. IsKind r e.0 e.1 Open) (group_of r.events place places.0 places.1) counts.open_pairs
  pub guarded : IsCountOf (λ e. IsKind r e.0 e.1 Guarded) (group_of r.events place places.0 places.1) counts.guarded
  pub forced : IsCountOf (λ e. IsKind r e.0 e.1 Forced) (group_of r.events place places.0 places.1) counts.forced

abbrev pub IsRow : Recording → (ℕ → ℕ) → Row → Type 0
IsRow r place row = IsRowAt r place row.places row.counts

-- no correct reordering shows a pair of events of the places p and q
abbrev pub IsNeverShownBetween : List Event → (ℕ → ℕ) → ℕ → ℕ → Type 0
IsNeverShownBetween T place p q =
    (a b : ℕ) (P : List ℕ) → is_between p q (place a) (place b) ≡ true → IsCorrectReordering T P → ¬ Shows T P a b

-- the same for the places of a row
abbrev pub IsRowNeverShown : List Event → (ℕ → ℕ) → Row → Type 0
IsRowNeverShown T place row = IsNeverShownBetween T place row.places.0 row.places.1

-- The counts follow from the sums: some are sums, others are differences of sums, and the forced pairs are the rest.
pub record IsDifference (sums : Sums) (counts : Counts) : Type 0 where
  pub candidates : counts.candidates ≡ sums.candidates
  pub guarded : counts.guarded ≡ sums.guarded
  pub open_pairs : counts.open_pairs ≡ sums.ordered - sums.guarded
  pub forced : counts.forced ≡ sums.all / 2 - sums.candidates - sums.ordered
