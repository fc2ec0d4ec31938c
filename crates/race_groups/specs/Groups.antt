-- The conflicting pairs of a trace by pair of places: the list, its counts, and its first pair. `T` is the events of
-- a trace; `place` has the place of each event. All of it is this project's own.
use Rattle.std.specs.Prelude.{◌≡◌, ℕ, ◌==◌, ◌&&◌, ◌||◌, ◌↔◌, Bool, true, false, List, Option, IsTrue, All, map, filter, find, length, count_by}
use Rattle.std.specs.List.{flat_map, list_any}
use Rattle.rapid_text.specs.declared.event.Event.{Event}
use Rattle.event_index.specs.Lookups.{before}
use Rattle.event_index.specs.Relations.{is_conflict}
use Rattle.must_order.specs.declared.kind.Kind.{Kind}
use Rattle.must_order.specs.declared.kind.Kind.TheVariants.{Candidate, Open, Guarded, Forced}

-- the pairs of numbers below n, the lesser first, in rising order of the greater and then of the lesser
abbrev pub pairs_below : ℕ → List (ℕ × ℕ)
pairs_below n = flat_map (λ b. map (λ a. (a, b)) (before b)) (before n)

-- the pairs that conflict, the earlier event first, in rising order of the later and then of the earlier
abbrev pub conflicts : List Event → List (ℕ × ℕ)
conflicts T = filter (λ e. is_conflict T e.0 e.1) (pairs_below (length T))

-- the places are p and q, in one order or the other
abbrev pub is_between : ℕ → ℕ → ℕ → ℕ → Bool
is_between p q c d = (c == p && d == q) || (c == q && d == p)

-- the conflicting pairs of the places p and q
abbrev pub group_of : List Event → (ℕ → ℕ) → ℕ → ℕ → List (ℕ × ℕ)
group_of T place p q = filter (λ e. is_between p q (place e.0) (place e.1)) (conflicts T)

-- the number of conflicting pairs of the places p and q that pass the test
abbrev pub count_of : List Event → (ℕ → ℕ) → (ℕ × ℕ → Bool) → ℕ → ℕ → ℕ
count_of T place test p q = count_by test (group_of T place p q)

-- the least conflicting pair of the places p and q that passes: by the later event, and then by the earlier
abbrev pub least_of : List Event → (ℕ → ℕ) → (ℕ × ℕ → Bool) → ℕ → ℕ → Option (ℕ × ℕ)
least_of T place test p q = find test (group_of T place p q)

-- how many of the first `variables` variables have a pair that passes; `variable` gives the variable of a pair
abbrev pub variables_of : List Event → (ℕ → ℕ) → (ℕ × ℕ → Bool) → (ℕ × ℕ → ℕ) → ℕ → ℕ → ℕ → ℕ
variables_of T place test variable variables p q =
    count_by (λ x. list_any (λ e. variable e == x && test e) (group_of T place p q)) (before variables)

-- n is the number of elements with the property P: those that pass a test that decides P
pub record IsCountOf {X : Type 0} (P : X → Type 0) (xs : List X) (n : ℕ) : Type 0 where
  pub test : X → Bool
  pub tells : All (λ x. IsTrue (test x) ↔ P x) xs
  pub count : n ≡ count_by test xs

-- the first kind that fits, from three tests: SHB keeps the earlier event before the later's base; the pair is
-- forced; both threads hold one lock
abbrev pub kind_by : Bool → Bool → Bool → Kind
kind_by false forced guarded = Candidate
kind_by true true guarded = Forced
kind_by true false true = Guarded
kind_by true false false = Open
