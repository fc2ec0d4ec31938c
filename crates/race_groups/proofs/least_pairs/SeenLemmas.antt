-- What was taken in with the last event of a class is held with the next one.
use Rattle.std.proofs.Common.{◌≡◌, ℕ, ◌<◌, ◌≤◌, List, length, slice_index, Some, refl, sym, ap, ◌∙◌, le_refl, arith, inl, inr}
use Rattle.std.proofs.lemmas.Option.{slice_get_within}
use Rattle.event_index.specs.Events.{thread_at}
use Rattle.event_index.specs.Lookups.{place_of}
use Rattle.event_index.proofs.CallerLemmas.{thread_here}
use Rattle.must_order.specs.Kinds.{IsKind}
use Rattle.must_order.specs.MustBefore.{IsForced}
use Rattle.must_order.specs.declared.kind.Kind.TheVariants.{Candidate, Open}
use Rattle.race_groups.specs.Ends.{IsKnownBefore, counted_before, known_before}
use Rattle.race_groups.proofs.CutLemmas.{IsCut-from}
use Rattle.race_groups.specs.least_pairs.Going.{AreClashing, AreTakenBefore, HasCandidate, HasOpen, IsSound, IsTaken}
use Rattle.race_groups.specs.least_pairs.Lanes.{IsPrevious, access_op}
use Rattle.race_groups.specs.least_pairs.Pairs.{IsPair}
use Rattle.race_groups.specs.least_pairs.Windows.{of_lane}
use Rattle.race_groups.specs.declared.least_pairs.lanes.Lane.{Lane}
use Rattle.race_groups.specs.declared.least_pairs.lanes.Later.{Later}
use Rattle.race_groups.specs.declared.least_pairs.leasts.Search.{Search}
use Rattle.race_groups.specs.declared.least_pairs.least.Least.{Least}
use Rattle.race_groups.proofs.least_pairs.AlikeLemmas.{candidate_onward, open_onward, shares_alike}
use Rattle.race_groups.proofs.least_pairs.LaneFacts.{at_place}
use Rattle.race_groups.proofs.least_pairs.NotingLemmas.{known_is_open}
use Rattle.race_groups.proofs.least_pairs.WindowLemmas.{above_candidate, access_here, candidate_above, later_within, loose_above, of_these, pair_here, pair_with, thread_of_lane, thread_of_later}

module _ (s : Search) (sound : IsSound s) (leasts : List Least) (l : Lane) (later : Later) (are : AreClashing s l later) (before : AreTakenBefore s later.variable leasts later.event)
    (p : ℕ) (is : IsPrevious s.indexed.now.events s.classes.now.numbers.items later p) (k : ℕ) (low : k < length l.events.items) where
  within : p < length s.indexed.now.events
  within = slice_get_within s.indexed.now.events p (record { thread = later.thread; op = access_op later.is_writing later.variable }) is.same

  thread : thread_at s.indexed.now.events p ≡ Some later.thread
  thread = thread_here s.indexed.now.events p (record { thread = later.thread; op = access_op later.is_writing later.variable }) is.same

  pair_before : at_place l k < p → IsPair s.indexed.now.events (at_place l k) p
  pair_before = pair_with s l later are k p low is.same

  taken : at_place l k < p → IsTaken s.indexed.now (slice_index s.places.now) s.groups.now.rows.items s.most later.variable leasts (at_place l k) p
  taken lt = before (at_place l k) p (pair_before lt) (access_here s l later are k low) is.before

  known_rises : known_before s.indexed.now.events p l.thread ≤ known_before s.indexed.now.events later.event l.thread
  known_rises =
      (IsCut-from s.indexed.now.events (IsKnownBefore s.indexed.now.events) (known_before s.indexed.now.events) sound.known).rising p later.event l.thread later.thread
      (omega (arith, is.before)) (later_within s l later are) thread (thread_of_later s l later are)

  forced_rises : counted_before s.rows.now s.indexed.now.events p l.thread ≤ counted_before s.rows.now s.indexed.now.events later.event l.thread
  forced_rises =
      (IsCut-from s.indexed.now.events (IsForced s.indexed.now.events) (counted_before s.rows.now s.indexed.now.events) sound.forced).rising p later.event l.thread later.thread
      (omega (arith, is.before)) (later_within s l later are) thread (thread_of_later s l later are)

  pub candidate_seen : at_place l k < p → IsKind s.indexed.now (at_place l k) later.event Candidate → HasCandidate s later.variable leasts (at_place l k) later.event
  candidate_seen lt kind =
      let a = at_place l k in
      let r = s.indexed.now in
      let of = thread_of_lane s l later are k low in
      let above = above_candidate r (known_before r.events) sound.known a later.event l.thread (pair_here s l later are k low) of kind in
      let up = known_rises in
      let kind_then = candidate_above r (known_before r.events) sound.known a p l.thread (pair_before lt) of (omega (arith, above, up)) in
      let held = taken lt in
      candidate_onward s sound leasts a p a later.event (le_refl a) (omega (arith, is.before)) (omega (arith, lt, within)) (later_within s l later are) refl is.of_class later.variable
      (held.held.candidate kind_then, held.counted (inl kind_then))

  pub open_seen :
      place_of s.indexed.now.events (at_place l k) < known_before s.indexed.now.events p l.thread
      → counted_before s.rows.now s.indexed.now.events later.event l.thread ≤ place_of s.indexed.now.events (at_place l k)
      → HasOpen s leasts (of_lane l later) (at_place l k) later.event
  open_seen under loose apart =
      let a = at_place l k in
      let r = s.indexed.now in
      let of = thread_of_lane s l later are k low in
      let known = sound.known.reached a p l.thread within of under in
      let lt = sound.known.earlier a p known in
      let pair = pair_before lt in
      let up = forced_rises in
      let free = loose_above r (counted_before s.rows.now r.events) sound.forced a p l.thread pair of (omega (arith, loose, up)) in
      let inside : a < length r.events = omega (arith, lt, within) in
      let groups = sound.groups in
      let alike = shares_alike s sound leasts a p a later.event (le_refl a) (omega (arith, is.before)) inside (later_within s l later are) refl is.of_class in
      let kind_then = known_is_open r (slice_index s.places.now) s.classes.now.numbers.items s.classes.now.infos.items s.classes.now.lists.keys a p sound.formed sound.rules
      groups.classes groups.locks pair known free (alike ∙ apart) in
      let held = taken lt in
      open_onward s sound leasts a p a later.event (le_refl a) (omega (arith, is.before)) inside (later_within s l later are) refl is.of_class (of_lane l later)
      (λ _. (held.held.opens (of_lane l later) (of_these s l later are k p low is.same) kind_then, held.counted (inr kind_then))) apart
