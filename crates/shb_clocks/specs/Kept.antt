-- Lists of counts. Each is kept whole, or as its increases over a whole list.
use Rattle.std.specs.Prelude.{◌≡◌, ℕ, ◌+◌, ◌^◌, ◌<◌, ◌≤◌, max, List, length, slice_index}
use Rattle.shb_clocks.specs.declared.kept.Place.{Place}

-- What a contract sees: the number of threads that a list counts, the whole lists, and the increases over them.
pub record Lists : Type 0 where
  pub width : ℕ
  pub wholes : List ℕ
  pub rises : List ℕ

-- the count of thread t in the list at place p
abbrev pub count_in : Lists → Place → ℕ → ℕ
count_in k p t = slice_index k.wholes (p.whole + t) + slice_index k.rises (p.rise + t)

-- there is a list at place p
pub record IsPlace (k : Lists) (p : Place) : Type 0 where
  pub whole : p.whole + k.width ≤ length k.wholes
  pub rise : p.rise + k.width ≤ length k.rises
  pub fits : (t : ℕ) → t < k.width → count_in k p t < 2 ^ 32

-- each earlier list is still at its place, with the same counts
pub record IsMore (old new : Lists) : Type 0 where
  pub width : new.width ≡ old.width
  pub place : (p : Place) → IsPlace old p → IsPlace new p
  pub count : (p : Place) (t : ℕ) → IsPlace old p → t < old.width → count_in new p t ≡ count_in old p t

-- the list at the place has the counts of the row, for each thread below width
abbrev pub CountsRow : ℕ → Lists → List ℕ → Place → Type 0
CountsRow width k row place = (t : ℕ) → t < width → count_in k place t ≡ slice_index row t

-- each count of the new row is the larger of the old row's and the list's
abbrev pub IsRaisedBy : Lists → Place → List ℕ → List ℕ → Type 0
IsRaisedBy k place old new = (t : ℕ) → t < k.width → slice_index new t ≡ max (slice_index old t) (count_in k place t)

-- each count of the row is at least that of the whole list at that index, and at most 255 larger
abbrev pub IsNearAt : Lists → ℕ → List ℕ → Type 0
IsNearAt k whole row =
    (t : ℕ) → t < k.width
    → (slice_index k.wholes (whole + t) ≤ slice_index row t) × (slice_index row t < slice_index k.wholes (whole + t) + 256)

-- the same for a whole list that is given as a list
abbrev pub IsNear : List ℕ → List ℕ → Type 0
IsNear wholes row =
    (t : ℕ) → t < length row → (slice_index wholes t ≤ slice_index row t) × (slice_index row t < slice_index wholes t + 256)

-- the rises are the row's counts minus the whole list's counts
abbrev pub AreRises : List ℕ → List ℕ → List ℕ → Type 0
AreRises wholes rises row = (t : ℕ) → t < length row → slice_index wholes t + slice_index rises t ≡ slice_index row t

-- the new row is the sum of the two lists
abbrev pub IsSumOf : List ℕ → List ℕ → List ℕ → List ℕ → Type 0
IsSumOf wholes rises old new = (t : ℕ) → t < length old → slice_index new t ≡ slice_index wholes t + slice_index rises t

-- each count of the new row is the larger of the old row's and that sum
abbrev pub IsRaisedToSum : List ℕ → List ℕ → List ℕ → List ℕ → Type 0
IsRaisedToSum wholes rises old new =
    (t : ℕ) → t < length old → slice_index new t ≡ max (slice_index old t) (slice_index wholes t + slice_index rises t)
