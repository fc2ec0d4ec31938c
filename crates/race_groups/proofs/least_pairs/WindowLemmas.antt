-- What a place in a lane tells of the kind of its event's pair with a later one.
use Rattle.std.proofs.Common.{◌≡◌, ℕ, ◌+◌, ◌<◌, ◌≤◌, ◌⊎◌, Bool, true, false, true≢false, ◌||◌, List, length, slice_get, Some, refl, sym, ap, ◌∙◌, arith, eq-eqb, inl, inr}
use Rattle.std.proofs.lemmas.Bool.{cases_eq}
use Rattle.std.proofs.lemmas.List.Elements.{All-get_or}
use Rattle.std.proofs.lemmas.Option.{slice_get_within, same_Some}
use Rattle.rapid_text.specs.Recording.{Recording}
use Rattle.rapid_text.specs.Operations.{is_write}
use Rattle.rapid_text.specs.declared.event.Event.{Event}
use Rattle.event_index.proofs.CallerLemmas.{passes_here, thread_here}
use Rattle.event_index.specs.Events.{thread_at}
use Rattle.event_index.specs.Lookups.{place_of}
use Rattle.event_index.specs.Relations.{IsConflicting, is_access}
use Rattle.must_order.specs.Kinds.{IsKind}
use Rattle.must_order.specs.MustBefore.{IsForced}
use Rattle.must_order.specs.declared.kind.Kind.TheVariants.{Candidate, Open}
use Rattle.shb_clocks.specs.Candidates.{IsCandidatePair}
use Rattle.race_groups.specs.Cuts.{IsCutOf}
use Rattle.race_groups.specs.Ends.{IsKnownBefore}
use Rattle.race_groups.specs.least_pairs.Going.{AreClashing}
use Rattle.race_groups.specs.least_pairs.Lanes.{DoesSame, IsInLane, IsLater, access_op}
use Rattle.race_groups.specs.least_pairs.Making.{IsBegun}
use Rattle.race_groups.specs.least_pairs.Pairs.{IsOf, IsPair, is_access_at}
use Rattle.race_groups.specs.least_pairs.Windows.{of_lane}
use Rattle.race_groups.specs.declared.least_pairs.lanes.Lane.{Lane}
use Rattle.race_groups.specs.declared.least_pairs.lanes.Later.{Later}
use Rattle.race_groups.specs.declared.least_pairs.leasts.Search.{Search}
use Rattle.race_groups.specs.declared.least_pairs.tries.Between.{Between}
use Rattle.race_groups.proofs.least_pairs.LaneFacts.{at_place, lane_event, lane_thread}
use Rattle.race_groups.proofs.least_pairs.BasicLemmas.{access_is, access_one, cases_le}

module _ (r : Recording) (ends : ℕ → ℕ → ℕ) (known : IsCutOf r.events (IsKnownBefore r.events) ends) (a b t : ℕ) (pair : IsPair r.events a b) (of : thread_at r.events a ≡ Some t) where
  pub candidate_above : ends b t ≤ place_of r.events a → IsKind r a b Candidate
  candidate_above le = inl (record {
    conflict = pair.conflict;
    earlier = pair.earlier;
    apart = λ c base before. let lt = known.counted a b t pair.within of (c, base, before) in absurd (omega (arith, lt, le));
  })

  pub known_below : place_of r.events a < ends b t → IsKnownBefore r.events a b
  known_below lt = known.reached a b t pair.within of lt

  pub no_candidate_below : place_of r.events a < ends b t → ¬ IsCandidatePair r.events a b
  no_candidate_below lt is =
      let before = known_below lt in
      elim is [
        | inl one ↦ one.apart before.0 before.1 before.2
        | inr other ↦ let back = other.earlier in let on = pair.earlier in absurd (omega (arith, back, on))
      ]

  pub above_candidate : IsKind r a b Candidate → ends b t ≤ place_of r.events a
  above_candidate is = elim (cases_le (ends b t) (place_of r.events a)) [ inl le ↦ le | inr lt ↦ absurd (no_candidate_below lt is) ]

  pub below_open : IsKind r a b Open → place_of r.events a < ends b t
  below_open is = elim (cases_le (ends b t) (place_of r.events a)) [ inl le ↦ absurd (is.0 (candidate_above le)) | inr lt ↦ lt ]

module _ (r : Recording) (ends : ℕ → ℕ → ℕ) (forced : IsCutOf r.events (IsForced r.events) ends) (a b t : ℕ) (pair : IsPair r.events a b) (of : thread_at r.events a ≡ Some t) where
  pub loose_above : ends b t ≤ place_of r.events a → ¬ IsForced r.events a b
  loose_above le is = let lt = forced.counted a b t pair.within of is in omega (arith, lt, le)

  pub above_open : IsKind r a b Open → ends b t ≤ place_of r.events a
  above_open is = elim (cases_le (ends b t) (place_of r.events a)) [ inl le ↦ le | inr lt ↦ absurd (is.1 (forced.reached a b t pair.within of lt)) ]

-- events of two lanes of a variable
write_is : (w : Bool) (x : ℕ) → is_write x (access_op w x) ≡ w
write_is true x = eq-eqb x x refl
write_is false x = refl

-- The events of a lane that conflict with a later one.
module _ (s : Search) (l : Lane) (later : Later) (are : AreClashing s l later) where
  abbrev does : Event
  does = record { thread = later.thread; op = access_op later.is_writing later.variable }

  pub event_here : (k : ℕ) → k < length l.events.items → IsInLane s.indexed.now.events later.variable l (at_place l k)
  event_here = lane_event s.indexed.now.events s.classes.now.numbers.items later.variable l are.begun.plain

  pub thread_of_lane : (k : ℕ) → k < length l.events.items → thread_at s.indexed.now.events (at_place l k) ≡ Some l.thread
  thread_of_lane = lane_thread s.indexed.now.events s.classes.now.numbers.items later.variable l are.begun.plain

  pub thread_of_later : thread_at s.indexed.now.events later.event ≡ Some later.thread
  thread_of_later = thread_here s.indexed.now.events later.event does are.one.here

  pub later_within : later.event < length s.indexed.now.events
  later_within = slice_get_within s.indexed.now.events later.event does are.one.here

  -- the later event is none of them
  pub before_it : (k : ℕ) → k < length l.events.items → at_place l k < later.event
  before_it k lt =
      let under : at_place l k < later.event + 1 = All-get_or (λ e. e < later.event + 1) l.events.items k 0 lt are.begun.below in
      elim (cases_eq (at_place l k) later.event) [
        | inl same ↦ absurd (are.threads (same_Some l.thread later.thread (sym (thread_of_lane k lt) ∙ ap (thread_at s.indexed.now.events) same ∙ thread_of_later)))
        | inr apart ↦ omega (arith, under)
      ]

  pub access_here : (k : ℕ) → k < length l.events.items → is_access_at s.indexed.now.events later.variable (at_place l k) ≡ true
  access_here k lt =
      let v : Event = record { thread = l.thread; op = access_op l.is_writing later.variable } in
      passes_here (λ w. is_access later.variable w.op) s.indexed.now.events (at_place l k) v (event_here k lt) ∙ access_is l.is_writing later.variable

  -- each of them is in conflict with each event that does the same as the later one
  pub conflict_here : (k b : ℕ) → k < length l.events.items → DoesSame s.indexed.now.events later b → IsConflicting s.indexed.now.events (at_place l k) b
  conflict_here k b lt same = record {
    v = record { thread = l.thread; op = access_op l.is_writing later.variable };
    w = does;
    first = event_here k lt;
    second = same;
    clash = record {
      threads = are.threads;
      variable = later.variable;
      first = access_is l.is_writing later.variable;
      second = access_is later.is_writing later.variable;
      writes = ap (λ w. w || is_write later.variable (access_op later.is_writing later.variable)) (write_is l.is_writing later.variable)
          ∙ ap (λ w. l.is_writing || w) (write_is later.is_writing later.variable) ∙ are.writes;
    };
  }

  pub pair_with : (k b : ℕ) → k < length l.events.items → DoesSame s.indexed.now.events later b → at_place l k < b → IsPair s.indexed.now.events (at_place l k) b
  pair_with k b lt same before = record {
    conflict = conflict_here k b lt same;
    earlier = before;
    within = slice_get_within s.indexed.now.events b does same;
  }

  pub pair_here : (k : ℕ) → k < length l.events.items → IsPair s.indexed.now.events (at_place l k) later.event
  pair_here k lt = pair_with k later.event lt are.one.here (before_it k lt)

  pub of_these : (k b : ℕ) → k < length l.events.items → DoesSame s.indexed.now.events later b → IsOf s.indexed.now.events (of_lane l later) (at_place l k) b
  of_these k b lt same = record {
    variable = access_here k lt;
    earlier = thread_of_lane k lt;
    later = thread_here s.indexed.now.events b does same;
  }

pub only_left : (p : Bool) → (p || false) ≡ true → p ≡ true
only_left true is = is
only_left false is = is

-- a variable and two threads
abbrev pub between : ℕ → ℕ → ℕ → Between
between x t u = record { variable = x; earlier = t; later = u }

same_between : (of one : Between) → one.variable ≡ of.variable → one.earlier ≡ of.earlier → one.later ≡ of.later → one ≡ of
same_between of one v e l =
    ap (λ (n : ℕ). between n one.earlier one.later) v ∙ ap (λ (n : ℕ). between of.variable n one.later) e ∙ ap (λ (n : ℕ). between of.variable of.earlier n) l

-- a pair is of one variable and two threads
pub one_between : (T : List Event) (x : ℕ) (w : Bool) (v : Event) (a b : ℕ) (of one : Between) → slice_get T a ≡ Some v → v.op ≡ access_op w x → one.variable ≡ x
    → IsOf T one a b → IsOf T of a b → one ≡ of
one_between T x w v a b of one there op variable is also =
    let reads : is_access of.variable (access_op w x) ≡ true = ap (is_access of.variable) (sym op) ∙ sym (passes_here (λ u. is_access of.variable u.op) T a v there) ∙ also.variable in
    same_between of one (variable ∙ access_one w x of.variable reads)
    (same_Some one.earlier of.earlier (sym is.earlier ∙ also.earlier))
    (same_Some one.later of.later (sym is.later ∙ also.later))

-- a read writes no variable
read_only : (w : Bool) (x y : ℕ) → w ≡ false → is_write y (access_op w x) ≡ false
read_only true x y is = absurd (true≢false is)
read_only false x y is = refl

-- the events of a lane with none, of the same thread, or that read as the later one does, are in no conflict with it
pub no_clash :
    (s : Search) (l : Lane) (later : Later) → IsBegun s.indexed.now.events s.classes.now.numbers.items later.variable (later.event + 1) l
    → IsLater s.indexed.now.events s.classes.now.numbers.items later
    → (length l.events.items ≡ 0) ⊎ ((l.thread ≡ later.thread) ⊎ ((l.is_writing ≡ false) × (later.is_writing ≡ false)))
    → (k : ℕ) → k < length l.events.items → ¬ IsPair s.indexed.now.events (at_place l k) later.event
no_clash s l later begun one either k low pair =
    let c = pair.conflict in
    let there = lane_event s.indexed.now.events s.classes.now.numbers.items later.variable l begun.plain k low in
    let first : c.v ≡ record { thread = l.thread; op = access_op l.is_writing later.variable } = same_Some c.v (record { thread = l.thread; op = access_op l.is_writing later.variable }) (sym c.first ∙ there) in
    let second : c.w ≡ record { thread = later.thread; op = access_op later.is_writing later.variable } =
    same_Some c.w (record { thread = later.thread; op = access_op later.is_writing later.variable }) (sym c.second ∙ one.here) in
    elim either [
      | inl none ↦ omega (arith, low, none)
      | inr (inl same) ↦ c.clash.threads (ap (λ (e : Event). e.thread) first ∙ same ∙ sym (ap (λ (e : Event). e.thread) second))
      | inr (inr reads) ↦
          let y = c.clash.variable in
          let reads_first : is_write y c.v.op ≡ false = ap (λ (e : Event). is_write y e.op) first ∙ read_only l.is_writing later.variable y reads.0 in
          let reads_second : is_write y c.w.op ≡ false = ap (λ (e : Event). is_write y e.op) second ∙ read_only later.is_writing later.variable y reads.1 in
          true≢false (sym c.clash.writes ∙ ap (λ b. b || is_write y c.w.op) reads_first ∙ ap (λ b. false || b) reads_second)
    ]
