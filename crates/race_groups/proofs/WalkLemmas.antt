-- What one later event adds to a row, class by class.
use Rattle.std.proofs.Common.{◌≡◌, ℕ, ◌+◌, ◌-◌, ◌<◌, ◌≤◌, Bool, true, false, List, length, take, drop, sum_by, slice_index, ap, ◌∙◌, arith}
use Rattle.std.specs.Bool.{if◌then◌else◌}
use Rattle.std.specs.List.{slice_get}
use Rattle.std.proofs.lemmas.List.{take-take, drop-take}
use Rattle.std.proofs.lemmas.List.Sums.{sum_by_more, sum_by_more_le_part, sum_by-le-sum_by, sum_by-take-drop, sum_by-take-le}
use Rattle.rapid_text.specs.declared.event.Op.TheVariants.{Read}
use Rattle.race_groups.specs.Classes.{adds_to}
use Rattle.race_groups.specs.declared.class.Class.{Class}

-- what is read past the end
abbrev pub some_class : Class
some_class = record { place = 0; op = Read 0; held = 0 }

-- how many events of class c are in pairs of the places p and q with the later event
abbrev pub share_of : (Class → Class → Bool) → ℕ → ℕ → Class → List Class → (ℕ → ℕ) → ℕ → ℕ
share_of keeps p q later infos counts c = if adds_to keeps p q later (slice_get infos c) then counts c else 0

pub if_le : (b : Bool) (n : ℕ) → (if b then n else 0) ≤ n
if_le true n = omega arith
if_le false n = omega arith

-- the classes up to the next, and what is added for it
module _ (keeps : Class → Class → Bool) (p q : ℕ) (later : Class) (infos : List Class) (counts : ℕ → ℕ) (members : List ℕ) (i : ℕ) (lt : i < length members) where
  pub share_more : sum_by (share_of keeps p q later infos counts) (take (i + 1) members)
      ≡ sum_by (share_of keeps p q later infos counts) (take i members) + (if adds_to keeps p q later (slice_get infos (slice_index members i)) then counts (slice_index members i) else 0)
  share_more = sum_by_more (share_of keeps p q later infos counts) members i 0 lt

  -- what is there and what is added fits
  pub share_fits : sum_by (share_of keeps p q later infos counts) (take i members) + counts (slice_index members i) ≤ sum_by counts members
  share_fits = sum_by_more_le_part (share_of keeps p q later infos counts) counts members i 0 lt (λ c. if_le (adds_to keeps p q later (slice_get infos c)) (counts c))

-- The classes up to a later place, and those between.
module _ (f : ℕ → ℕ) (members : List ℕ) (from to : ℕ) (le : from ≤ to) where
  pub sum_between : sum_by f (take to members) ≡ sum_by f (take from members) + sum_by f (take (to - from) (drop from members))
  sum_between =
      let e : to ≡ from + (to - from) = omega (arith, le) in
      let whole = sum_by-take-drop f (take to members) from in
      let first : sum_by f (take from (take to members)) ≡ sum_by f (take from members) = ap (sum_by f) (take-take from to members le) in
      let rest : sum_by f (drop from (take to members)) ≡ sum_by f (take (to - from) (drop from members)) = ap (λ n. sum_by f (drop from (take n members))) e ∙ ap (sum_by f) (drop-take from (to - from) members) in
      omega (arith, whole, first, rest)

  -- what is there and what is added fits
  pub between_fits : (g : ℕ → ℕ) → ((c : ℕ) → f c ≤ g c) → sum_by f (take from members) + sum_by g (take (to - from) (drop from members)) ≤ sum_by g members
  between_fits g less =
      let first = sum_by-le-sum_by f g (take from members) less in
      let whole = sum_by-take-drop g members from in
      let part = sum_by-take-le g (drop from members) (to - from) in
      omega (arith, first, whole, part)
