-- A search that always appends the first event that it may take, and never goes back. This project's own. `T` is the
-- events of a trace, `P` a correct reordering of it, and a and b the pair to be shown.
use Rattle.std.specs.Prelude.{◌≡◌, ℕ, zero, suc, ◌+◌, ◌==◌, Bool, not, ◌&&◌, List, [], ◌∷◌, ◌++◌, length, find, Option, Some, None, option_map}
use Rattle.std.specs.List.{range_with_len}
use Rattle.std.specs.Option.{is_none}
use Rattle.rapid_text.specs.declared.event.Event.{Event}
use Rattle.schedule.specs.Refusals.{refusal_of}
use Rattle.schedule.specs.Shows.{does_show}
use Rattle.witness_search.specs.Wanted.{AreWanted}

-- whether e is neither of the pair, and enabled after P: there is no cause against it
abbrev pub may_take : List Event → ℕ → ℕ → List ℕ → ℕ → Bool
may_take T a b P e = not (e == a) && (not (e == b) && is_none (refusal_of T P e))

-- the least of the rising events N that may be taken after P
abbrev pub next_step : List Event → ℕ → ℕ → List ℕ → List ℕ → Option ℕ
next_step T a b N P = find (may_take T a b P) N

abbrev pub followed_by : List ℕ → Option ℕ → List ℕ
followed_by P None = P
followed_by P (Some e) = P ++ e ∷ []

-- P after j steps: each appends the least of the events N that may be taken; if there is none, P stays
unfoldable pub after_steps : List Event → ℕ → ℕ → List ℕ → List ℕ → ℕ → List ℕ
after_steps T a b N P zero = P
after_steps T a b N P (suc j) = followed_by (after_steps T a b N P j) (next_step T a b N (after_steps T a b N P j))

-- the first of the lists after 0 to `budget` steps that shows the pair
abbrev pub first_shown : List Event → ℕ → ℕ → List ℕ → List ℕ → ℕ → Option (List ℕ)
first_shown T a b N P budget =
    option_map (after_steps T a b N P) (find (λ j. does_show T (after_steps T a b N P j) a b) (range_with_len 0 (budget + 1)))

-- the result of the search from P on: `first_shown`, with the wanted events
pub record IsGreedyAnswer (T : List Event) (P : List ℕ) (a b budget : ℕ) (found : Option (List ℕ)) : Type 0 where
  pub wanted : List ℕ
  pub are_wanted : AreWanted T a b wanted
  pub is : found ≡ first_shown T a b wanted P budget

-- How the search from P on ends: its result, and if it finds nothing, how many of its steps are not taken. Each step
-- that it takes adds one event to the list.
pub record IsGreedyRun (T : List Event) (P : List ℕ) (a b budget : ℕ) (found : Option (List ℕ)) (left : ℕ) : Type 0 where
  pub wanted : List ℕ
  pub are_wanted : AreWanted T a b wanted
  pub is : found ≡ first_shown T a b wanted P budget
  pub steps : found ≡ None → length (after_steps T a b wanted P budget) + left ≡ length P + budget
