-- The cut "earlier in the trace": as many events of a thread as stand before an event.
use Rattle.std.proofs.Common.{◌≡◌, ℕ, ◌+◌, ◌<◌, ◌==◌, cond, true, List, length, ap, ◌∙◌, inl, inr, arith, le_refl, Some}
use Rattle.std.proofs.Common.{slice_index, ◌≤◌}
use Rattle.std.proofs.lemmas.Bool.{cases_lt, eq-eqb}
use Rattle.std.proofs.lemmas.Option.{slice_get-get_or}
use Rattle.rapid_text.specs.declared.event.Event.{Event}
use Rattle.event_index.specs.Events.{thread_at}
use Rattle.event_index.specs.Lookups.{events_of, place_of, count_before}
use Rattle.event_index.proofs.CallerLemmas.{thread_event, place_of-count, place_of-events_of, count_more, length-events_before}
use Rattle.race_groups.specs.Cuts.{IsCutOf}
use Rattle.race_groups.proofs.LoopLemmas.{count_before-rises}

module _ (T : List Event) where
  placed : (a t : ℕ) → thread_at T a ≡ Some t → place_of T a ≡ count_before T a t
  placed a t at = let found = thread_event T a t at in place_of-count T a found.0 found.1 ∙ ap (count_before T a) found.2

  one_more : (a t : ℕ) → thread_at T a ≡ Some t → count_before T (a + 1) t ≡ count_before T a t + 1
  one_more a t at =
      let found = thread_event T a t at in
      let passes : (found.0.thread == t) ≡ true = eq-eqb found.0.thread t found.2 in
      count_more (λ w. w.thread == t) T a found.0 found.1 ∙ ap (λ x. count_before T a t + cond x 1 0) passes

  pub reached_is : (a b t : ℕ) → thread_at T a ≡ Some t → place_of T a < count_before T b t → a < b
  reached_is a b t at low =
      elim (cases_lt a b) [
        | inl fine ↦ fine
        | inr back ↦
            let rise = count_before-rises T t b a back in
            let is = placed a t at in
            absurd (omega (arith, rise, is))
      ]

  pub counted_is : (a b t : ℕ) → thread_at T a ≡ Some t → a < b → place_of T a < count_before T b t
  counted_is a b t at lt =
      let rise = count_before-rises T t (a + 1) b (omega arith) in
      let is = placed a t at in
      let more = one_more a t at in
      omega (arith, rise, is, more)

  -- all conflicting pairs are below this cut
  pub IsCutOf-earlier : IsCutOf T (λ a b. a < b) (count_before T)
  IsCutOf-earlier = record {
    within = λ b t lt.
        let all = length-events_before T t (length T) (le_refl (length T)) in
        let rise = count_before-rises T t b (length T) (omega arith) in
        omega (arith, all, rise);
    reached = λ a b t lt at low. reached_is a b t at low;
    counted = λ a b t lt at known. counted_is a b t at known;
    earlier = λ a b known. known;
    kept = λ a b c u le tb tc known. omega arith;
  }

  -- an event of the thread at place k that is earlier, and one that is not
  pub lane_below : (t k b : ℕ) → k < length (events_of T t) → slice_index (events_of T t) k < b → k + 1 ≤ count_before T b t
  lane_below t k b lt low =
      let at = place_of-events_of T t k (slice_index (events_of T t) k) (slice_get-get_or (events_of T t) k 0 lt) in
      let over = counted_is (slice_index (events_of T t) k) b t at.1 low in
      omega (arith, over, at.2)

  pub lane_above : (t k b : ℕ) → k < length (events_of T t) → b ≤ slice_index (events_of T t) k → count_before T b t ≤ k
  lane_above t k b lt low =
      let at = place_of-events_of T t k (slice_index (events_of T t) k) (slice_get-get_or (events_of T t) k 0 lt) in
      let rise = count_before-rises T t b (slice_index (events_of T t) k) low in
      let is = placed (slice_index (events_of T t) k) t at.1 in
      omega (arith, rise, is, at.2)

  pub lane_all : (t b : ℕ) → b ≤ length T → count_before T b t ≤ length (events_of T t)
  lane_all t b le =
      let all = length-events_before T t (length T) (le_refl (length T)) in
      let rise = count_before-rises T t b (length T) le in
      omega (arith, all, rise)
