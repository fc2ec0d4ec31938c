-- What holds of the events of a lane, by their places.
use Rattle.std.proofs.Common.{◌≡◌, ℕ, ◌<◌, ◌≤◌, length, slice_index, Some, List, ap, ◌∙◌, arith, inl, inr}
use Rattle.std.proofs.lemmas.Bool.{cases_order}
use Rattle.std.specs.List.{slice_index_or}
use Rattle.std.proofs.lemmas.Grind.{get_or_default_zero}
use Rattle.std.proofs.lemmas.List.Elements.{All-get_or}
use Rattle.rapid_text.specs.declared.event.Event.{Event}
use Rattle.event_index.specs.Events.{thread_at}
use Rattle.event_index.specs.Lookups.{place_of}
use Rattle.event_index.proofs.CallerLemmas.{thread_here}
use Rattle.shb_clocks.proofs.PlaceLemmas.{place_of-le_from}
use Rattle.race_groups.specs.least_pairs.Lanes.{IsInLane, IsPlain, IsRising, access_op}
use Rattle.race_groups.specs.least_pairs.Reach.{IsOrdered}
use Rattle.race_groups.specs.declared.least_pairs.lanes.Lane.{Lane}

-- what is read of a list at a place
pub read_is : (xs : List ℕ) (i n : ℕ) → i < length xs → n ≡ slice_index_or xs i n → n ≡ slice_index xs i
read_is xs i n lt is = is ∙ get_or_default_zero xs i n lt

-- the event of a lane at a place
abbrev pub at_place : Lane → ℕ → ℕ
at_place l k = slice_index l.events.items k

-- rising numbers are in order
pub ordered_from : (xs : List ℕ) → IsRising xs → IsOrdered xs
ordered_from xs rising i k le lt = elim (cases_order i k) [
  | inl same ↦ let is = ap (slice_index xs) same in omega (arith, is)
  | inr (inl before) ↦ let is = rising i k before lt in omega (arith, is)
  | inr (inr after) ↦ absurd (omega (arith, le, after))
]

module _ (T : List Event) (numbers : List ℕ) (x : ℕ) (l : Lane) (plain : IsPlain T numbers x l) where
  pub lane_event : (k : ℕ) → k < length l.events.items → IsInLane T x l (slice_index l.events.items k)
  lane_event k lt = All-get_or (IsInLane T x l) l.events.items k 0 lt plain.events

  pub lane_thread : (k : ℕ) → k < length l.events.items → thread_at T (slice_index l.events.items k) ≡ Some l.thread
  lane_thread k lt = thread_here T (slice_index l.events.items k) (record { thread = l.thread; op = access_op l.is_writing x }) (lane_event k lt)

  pub lane_rises : IsOrdered l.events.items
  lane_rises = ordered_from l.events.items plain.rising

  pub place_rises : (i k : ℕ) → i ≤ k → k < length l.events.items → place_of T (slice_index l.events.items i) ≤ place_of T (slice_index l.events.items k)
  place_rises i k le lt =
      place_of-le_from T (slice_index l.events.items i) (slice_index l.events.items k) l.thread (lane_thread i (omega (arith, le, lt))) (lane_thread k lt) (lane_rises i k le lt)

  pub places_rise : IsOrdered l.places.items
  places_rise i k le lt =
      let low : k < length l.events.items = omega (arith, lt, plain.places_len) in
      let first = plain.places i (omega (arith, le, low)) in
      let second = plain.places k low in
      let up = place_rises i k le low in
      omega (arith, first, second, up)
