-- All pairs that a schedule shows.
use Rattle.std.specs.Prelude.{ℕ, List, [], ◌∷◌, ◌++◌, length, map, filter}
use Rattle.rapid_text.specs.declared.event.Event.{Event}
use Rattle.event_index.specs.Lookups.{before}
use Rattle.rapid_text.specs.Recording.{Recording}
use Rattle.schedule.specs.Scheduled.{Scheduled}
use Rattle.schedule.specs.Shows.{does_show}

-- each member with each later member, in the order of the list
abbrev pub pairs_of : List ℕ → List (ℕ × ℕ)
pairs_of [] = []
pairs_of (x ∷ xs) = map (λ y. (x, y)) xs ++ pairs_of xs

-- the pairs of events that P shows, the earlier event first, in rising order
abbrev pub shown_pairs : List Event → List ℕ → List (ℕ × ℕ)
shown_pairs T P = filter (λ p. does_show T P p.0 p.1) (pairs_of (before (length T)))

-- the pairs of `first` and one of these later events that P shows
abbrev pub pairs_with : List Event → List ℕ → ℕ → List ℕ → List (ℕ × ℕ)
pairs_with T P first later = filter (λ p. does_show T P p.0 p.1) (map (λ y. (first, y)) later)

-- the same for the events of a schedule of the recording
abbrev pub shown_with : Recording → Scheduled → ℕ → List ℕ → List (ℕ × ℕ)
shown_with r s first later = pairs_with r.events s.events first later
