-- The pairs of a later event with those of a lane: candidates, or what SHB orders and must-before does not.
use Rattle.std.proofs.Common.{◌≡◌, ℕ, ◌<◌, ◌≤◌, ◌-◌, false, List, All, Contains, length, slice_index, IfSome, Option, Some, refl, sym, ap, ◌∙◌, le_refl, subst, arith, inl, inr}
use Rattle.std.proofs.lemmas.List.Elements.{All-contains, All-get_or}
use Rattle.std.proofs.lemmas.Grind.{get_or_default_zero}
use Rattle.event_index.specs.Lookups.{place_of}
use Rattle.must_order.specs.Kinds.{IsKind}
use Rattle.must_order.specs.declared.kind.Kind.TheVariants.{Candidate, Open}
use Rattle.race_groups.specs.Ends.{counted_before, known_before}
use Rattle.race_groups.proofs.MonotoneLemmas.{forced-le-known}
use Rattle.race_groups.specs.least_pairs.Going.{AreClashing, AreMore, AreTakenBefore, AreTakenWith, Has, HasCandidate, HasOpen, IsOpenHeld, IsSought, IsSound, IsVariableHeld, IsWindow, WasSeen, has_some, kind_of}
use Rattle.race_groups.specs.least_pairs.Lanes.{IsBunch, IsPrevious, IsRising, access_op}
use Rattle.race_groups.specs.least_pairs.Pairs.{IsOf, IsPair}
use Rattle.race_groups.specs.least_pairs.Reach.{IsReach}
use Rattle.race_groups.specs.least_pairs.Windows.{of_lane, of_window}
use Rattle.race_groups.specs.declared.least_pairs.lanes.Bunch.{Bunch}
use Rattle.race_groups.specs.declared.least_pairs.lanes.Lane.{Lane}
use Rattle.race_groups.specs.declared.least_pairs.lanes.Later.{Later}
use Rattle.race_groups.specs.declared.least_pairs.leasts.Search.{Search}
use Rattle.race_groups.specs.declared.least_pairs.leasts.Sought.{Sought}
use Rattle.race_groups.specs.declared.least_pairs.leasts.Sought.TheVariants.{Candidates, Opens}
use Rattle.race_groups.specs.declared.least_pairs.windows.Window.{Window}
use Rattle.race_groups.specs.declared.least_pairs.least.Least.{Least}
use Rattle.race_groups.specs.declared.least_pairs.tries.Between.{Between}
use Rattle.race_groups.proofs.least_pairs.AlikeLemmas.{HasCandidate-more, HasOpen-more, candidate_onward, open_onward}
use Rattle.race_groups.proofs.least_pairs.BasicLemmas.{cases_le}
use Rattle.race_groups.proofs.least_pairs.LaneFacts.{at_place, ordered_from}
use Rattle.race_groups.proofs.least_pairs.NoneLemmas.{no_candidate_pair, no_open_pair, open_apart}
use Rattle.race_groups.proofs.least_pairs.SeenLemmas.{candidate_seen, open_seen}
use Rattle.race_groups.proofs.least_pairs.WindowLemmas.{above_candidate, above_open, before_it, below_open, candidate_above, event_here, later_within, loose_above, of_these, one_between, pair_here, thread_of_lane}

-- where the trace has none, no pair is of the kind
pub none_sought : (sought : Sought) (s : Search) → IsSound s → (a b : ℕ) → IsPair s.indexed.now.events a b → has_some sought s ≡ false → ¬ IsKind s.indexed.now a b (kind_of sought)
none_sought Candidates s sound a b pair = no_candidate_pair s sound a b pair
none_sought Opens s sound a b pair = no_open_pair s sound a b pair

-- what is held stays held
pub Has-more : (sought : Sought) (s : Search) (old new : List Least) (of : Between) (a b : ℕ) → AreMore s.most of.variable old new → Has sought s old of a b → Has sought s new of a b
Has-more Candidates s old new of a b = HasCandidate-more s old new a b of.variable
Has-more Opens s old new of a b = HasOpen-more s old new a b of

-- with each later event of the class of the earlier one
pub Has-onward :
    (sought : Sought) (s : Search) → IsSound s → (leasts : List Least) (of : Between) (a c b : ℕ) → a ≤ c → c < length s.indexed.now.events → b < length s.indexed.now.events
    → slice_index s.classes.now.numbers.items a ≡ slice_index s.classes.now.numbers.items c → Has sought s leasts of a b → Has sought s leasts of c b
Has-onward Candidates s sound leasts of a c b le within within' same = candidate_onward s sound leasts a b c b le (le_refl b) within within' same refl of.variable
Has-onward Opens s sound leasts of a c b le within within' same = open_onward s sound leasts a b c b le (le_refl b) within within' same refl of

-- what was taken in with the last event of the class is held
pub seen_held :
    (sought : Sought) (s : Search) → IsSound s → (leasts : List Least) (w : Window) → IsWindow sought s w → AreTakenBefore s w.later.variable leasts w.later.event
    → (p : ℕ) → IsPrevious s.indexed.now.events s.classes.now.numbers.items w.later p → (k : ℕ) → k < length w.lane.now.events.items → WasSeen sought s w p k
    → IsKind s.indexed.now (at_place w.lane.now k) w.later.event (kind_of sought)
    → Has sought s leasts (of_window w) (at_place w.lane.now k) w.later.event
seen_held Candidates s sound leasts w window before p is k low seen kind = candidate_seen s sound leasts w.lane.now w.later window.lanes before p is k low seen kind
seen_held Opens s sound leasts w window before p is k low seen kind =
    let above = above_open s.indexed.now (counted_before s.rows.now s.indexed.now.events) sound.forced (at_place w.lane.now k) w.later.event w.lane.now.thread
    (pair_here s w.lane.now w.later window.lanes k low) (thread_of_lane s w.lane.now w.later window.lanes k low) kind in
    open_seen s sound leasts w.lane.now w.later window.lanes before p is k low seen above

-- Where the two orders end in a lane, and which of its events are between.
module _ (s : Search) (sound : IsSound s) (l : Lane) (later : Later) (are : AreClashing s l later) (known forced : ℕ)
    (known_is : known ≡ known_before s.indexed.now.events later.event l.thread) (forced_is : forced ≡ counted_before s.rows.now s.indexed.now.events later.event l.thread) where
  placed : (k : ℕ) → k < length l.events.items → slice_index l.places.items k ≡ place_of s.indexed.now.events (at_place l k)
  placed = are.begun.plain.places

  len : length l.places.items ≡ length l.events.items
  len = are.begun.plain.places_len

  above_known : (k : ℕ) → k < length l.events.items → IsKind s.indexed.now (at_place l k) later.event Candidate → known ≤ slice_index l.places.items k
  above_known k low kind =
      let above = above_candidate s.indexed.now (known_before s.indexed.now.events) sound.known (at_place l k) later.event l.thread (pair_here s l later are k low) (thread_of_lane s l later are k low) kind in
      omega (arith, above, known_is, placed k low)

  above_forced : (k : ℕ) → k < length l.events.items → IsKind s.indexed.now (at_place l k) later.event Open → forced ≤ slice_index l.places.items k
  above_forced k low kind =
      let above = above_open s.indexed.now (counted_before s.rows.now s.indexed.now.events) sound.forced (at_place l k) later.event l.thread (pair_here s l later are k low) (thread_of_lane s l later are k low) kind in
      omega (arith, above, forced_is, placed k low)

  under_known : (k : ℕ) → k < length l.events.items → IsKind s.indexed.now (at_place l k) later.event Open → slice_index l.places.items k < known
  under_known k low kind =
      let below = below_open s.indexed.now (known_before s.indexed.now.events) sound.known (at_place l k) later.event l.thread (pair_here s l later are k low) (thread_of_lane s l later are k low) kind in
      omega (arith, below, known_is, placed k low)

  -- where all events of the lane are before both ends, no pair is of either kind
  none_taken : (leasts : List Least) → l.last < known → l.last < forced → AreTakenWith s leasts l later
  none_taken leasts under under' k low pair =
      let le : slice_index l.places.items k ≤ l.last = All-get_or (λ p. p ≤ l.last) l.places.items k 0 (omega (arith, low, len)) are.begun.plain.last in
      let no_candidate : ¬ IsKind s.indexed.now (at_place l k) later.event Candidate = λ kind. (let above = above_known k low kind in omega (arith, above, le, under)) in
      let no_open : ¬ IsKind s.indexed.now (at_place l k) later.event Open = λ kind. (let above = above_forced k low kind in omega (arith, above, le, under')) in
      record {
        held = record {
          candidate = λ kind. absurd (no_candidate kind);
          opens = λ of these kind. absurd (no_open kind);
        };
        counted = λ either. elim either [ inl kind ↦ absurd (no_candidate kind) | inr kind ↦ absurd (no_open kind) ];
      }

  module _ (from to : ℕ) (reached : IsReach l.places.items (length l.places.items) known to) (begun : IsReach l.places.items to forced from) where
    -- the candidates stand from what SHB keeps before the event's base on
    pub candidate_window : (w : Window) → w.lane.now ≡ l → w.later ≡ later → w.from ≡ to → w.end ≡ length l.places.items → IsWindow Candidates s w
    candidate_window w lane_is later_is from_is end_is = record {
      lanes = subst (λ (m : Lane). AreClashing s m w.later) (sym lane_is) (subst (AreClashing s l) (sym later_is) are);
      within = omega (arith, end_is, len, ap (λ (m : Lane). length m.events.items) lane_is);
      inside = λ k low high.
          let inner : k < length l.events.items = omega (arith, high, end_is, len) in
          let above = reached.high k (omega (arith, low, from_is)) (omega (arith, high, end_is)) in
          let pair = pair_here s l later are k inner in
          let kind = candidate_above s.indexed.now (known_before s.indexed.now.events) sound.known (at_place l k) later.event l.thread pair (thread_of_lane s l later are k inner)
          (omega (arith, above, known_is, placed k inner)) in
          subst (λ (m : Lane). IsPair s.indexed.now.events (at_place m k) w.later.event × IsSought Candidates s.indexed.now (at_place m k) w.later.event) (sym lane_is)
          (subst (λ (t : Later). IsPair s.indexed.now.events (at_place l k) t.event × IsSought Candidates s.indexed.now (at_place l k) t.event) (sym later_is) (pair, kind));
    }

    -- the open pairs stand from what is must-before the event's base up to what SHB keeps before it
    pub open_window : (w : Window) → w.lane.now ≡ l → w.later ≡ later → w.from ≡ from → w.end ≡ to → IsWindow Opens s w
    open_window w lane_is later_is from_is end_is = record {
      lanes = subst (λ (m : Lane). AreClashing s m w.later) (sym lane_is) (subst (AreClashing s l) (sym later_is) are);
      within = omega (arith, end_is, reached.within, len, ap (λ (m : Lane). length m.events.items) lane_is);
      inside = λ k low high.
          let inner : k < length l.events.items = omega (arith, high, end_is, reached.within, len) in
          let under = reached.low k (omega (arith, high, end_is)) in
          let above = begun.high k (omega (arith, low, from_is)) (omega (arith, high, end_is)) in
          let pair = pair_here s l later are k inner in
          let thread = thread_of_lane s l later are k inner in
          let known_so = sound.known.reached (at_place l k) later.event l.thread (later_within s l later are) thread (omega (arith, under, known_is, placed k inner)) in
          let loose = loose_above s.indexed.now (counted_before s.rows.now s.indexed.now.events) sound.forced (at_place l k) later.event l.thread pair thread
          (omega (arith, above, forced_is, placed k inner)) in
          subst (λ (m : Lane). IsPair s.indexed.now.events (at_place m k) w.later.event × IsSought Opens s.indexed.now (at_place m k) w.later.event) (sym lane_is)
          (subst (λ (t : Later). IsPair s.indexed.now.events (at_place l k) t.event × IsSought Opens s.indexed.now (at_place l k) t.event) (sym later_is) (pair, (known_so, loose)));
    }

    -- where both are held, all pairs are taken in
    pub both_taken :
        (leasts : List Least)
        → ((k : ℕ) → to ≤ k → k < length l.places.items → IsKind s.indexed.now (at_place l k) later.event Candidate → HasCandidate s later.variable leasts (at_place l k) later.event)
        → ((k : ℕ) → from ≤ k → k < to → IsKind s.indexed.now (at_place l k) later.event Open → HasOpen s leasts (of_lane l later) (at_place l k) later.event)
        → AreTakenWith s leasts l later
    both_taken leasts candidates opens k low pair =
        let a = at_place l k in
        let b = later.event in
        let r = s.indexed.now in
        let candidate : IsKind r a b Candidate → HasCandidate s later.variable leasts a b = λ kind.
        (let above = above_known k low kind in
        elim (cases_le to k) [
          | inl le ↦ candidates k le (omega (arith, low, len)) kind
          | inr lt ↦ let under = reached.low k lt in absurd (omega (arith, above, under))
        ]) in
        let open_one : IsKind r a b Open → IsOpenHeld (slice_index s.places.now) s.groups.now.rows.items s.most leasts (of_lane l later) a b
        × IsVariableHeld (slice_index s.places.now) s.groups.now.rows.items later.variable leasts a b = λ kind.
        (let above = above_forced k low kind in
        let under = under_known k low kind in
        elim (cases_le to k) [
          | inl le ↦ let high = reached.high k le (omega (arith, low, len)) in absurd (omega (arith, high, under))
          | inr lt ↦ elim (cases_le from k) [
            | inl le ↦ opens k le lt kind (open_apart s sound a b pair kind)
            | inr lt' ↦ let less = begun.low k lt' in absurd (omega (arith, less, above))
          ]
        ]) in
        record {
          held = record {
            candidate = λ kind. (candidate kind).0;
            opens = λ of these kind.
                subst (λ (o : Between). IsOpenHeld (slice_index s.places.now) s.groups.now.rows.items s.most leasts o a b)
                (one_between r.events later.variable l.is_writing (record { thread = l.thread; op = access_op l.is_writing later.variable }) a b of (of_lane l later)
                (event_here s l later are k low) refl refl (of_these s l later are k b low are.one.here) these) (open_one kind).0;
          };
          counted = λ either. elim either [ inl kind ↦ (candidate kind).1 | inr kind ↦ (open_one kind).1 ];
        }

-- where all events of the lane are forced, no pair is of either kind
pub all_forced :
    (s : Search) → IsSound s → (l : Lane) (later : Later) → AreClashing s l later → (leasts : List Least)
    → l.last < counted_before s.rows.now s.indexed.now.events later.event l.thread → AreTakenWith s leasts l later
all_forced s sound l later are leasts under =
    let T = s.indexed.now.events in
    let nested = forced-le-known T sound.rules (counted_before s.rows.now T) sound.forced sound.known later.event l.thread (later_within s l later are) in
    none_taken s sound l later are (known_before T later.event l.thread) (counted_before s.rows.now T later.event l.thread) refl refl leasts (omega (arith, under, nested)) under

-- with other names for the numbers and for the end
pub reach_of : (xs ys : List ℕ) (n m bound r : ℕ) → xs ≡ ys → n ≡ m → IsReach xs n bound r → IsReach ys m bound r
reach_of xs ys n m bound r same ends is = subst (λ (zs : List ℕ). IsReach zs m bound r) same (subst (λ (k : ℕ). IsReach xs k bound r) ends is)

-- The events of a window that were not taken in with the last event of the class are held, and so all are.
pub fresh_held :
    (sought : Sought) (s : Search) → IsSound s → (old new : List Least) (w : Window) (n : ℕ) → IsWindow sought s w → AreTakenBefore s w.later.variable old w.later.event
    → AreMore s.most w.later.variable old new
    → ((k : ℕ) → w.from ≤ k → k < n → (p : ℕ) × (w.later.previous ≡ Some p) × WasSeen sought s w p k)
    → ((k : ℕ) → n ≤ k → k < w.end → Has sought s new (of_window w) (at_place w.lane.now k) w.later.event)
    → (k : ℕ) → w.from ≤ k → k < w.end → IsKind s.indexed.now (at_place w.lane.now k) w.later.event (kind_of sought)
    → Has sought s new (of_window w) (at_place w.lane.now k) w.later.event
fresh_held sought s sound old new w n window before more seen held k low high kind = elim (cases_le n k) [
  | inl le ↦ held k le high
  | inr lt ↦
      let was = seen k low lt in
      let P = IsPrevious s.indexed.now.events s.classes.now.numbers.items w.later in
      let previous : P was.0 = subst (λ (o : Option ℕ). IfSome o P) was.1 window.lanes.one.previous in
      Has-more sought s old new (of_window w) (at_place w.lane.now k) w.later.event more
      (seen_held sought s sound old w window before was.0 previous k (omega (arith, high, window.within)) was.2 kind)
]

-- The first event of a bunch in a window.
module _ (sought : Sought) (s : Search) (sound : IsSound s) (w : Window) (window : IsWindow sought s w) (some : w.from < w.end) (g : Bunch) (among : Contains w.lane.now.bunches.items g)
    (low high first : ℕ) (low_is : low ≡ at_place w.lane.now w.from) (high_is : high ≡ at_place w.lane.now (w.end - 1)) where
  bunch_is : IsBunch s.classes.now.numbers.items w.lane.now.events.items g
  bunch_is = All-contains (IsBunch s.classes.now.numbers.items w.lane.now.events.items) w.lane.now.bunches.items g window.lanes.begun.plain.bunches among

  pub bunch_rises : IsRising g.events.items
  bunch_rises = bunch_is.rising

  rises : IsRising w.lane.now.events.items
  rises = window.lanes.begun.plain.rising

  pub no_earlier : (k : ℕ) → w.from ≤ k → k < w.end → low ≤ at_place w.lane.now k
  no_earlier k from to =
      let up = ordered_from w.lane.now.events.items rises w.from k from (omega (arith, to, window.within)) in
      omega (arith, up, low_is)

  pub no_later : (k : ℕ) → w.from ≤ k → k < w.end → at_place w.lane.now k ≤ high
  no_later k from to =
      let up = ordered_from w.lane.now.events.items rises k (w.end - 1) (omega (arith, to)) (omega (arith, to, window.within)) in
      omega (arith, up, high_is)

  module _ (there : Contains g.events.items first) (le : low ≤ first) (le' : first ≤ high) where
    pub in_window : (k : ℕ) × (w.from ≤ k) × (k < w.end) × (at_place w.lane.now k ≡ first)
    in_window =
        let at = All-contains (Contains w.lane.now.events.items) g.events.items first bunch_is.among there in
        let k : ℕ = at.0 in
        let is : at_place w.lane.now k ≡ first = sym (get_or_default_zero w.lane.now.events.items k first at.1) ∙ at.2 in
        let from : w.from ≤ k = elim (cases_le w.from k) [
          | inl fine ↦ fine
          | inr lt ↦ let up = rises k w.from lt (omega (arith, some, window.within)) in absurd (omega (arith, up, is, le, low_is))
        ] in
        let to : k < w.end = elim (cases_le w.end k) [
          | inl over ↦ let up = rises (w.end - 1) k (omega (arith, over, some)) at.1 in absurd (omega (arith, up, is, le', high_is))
          | inr fine ↦ fine
        ] in
        (k, from, to, is)

    pub first_inside : IsPair s.indexed.now.events first w.later.event × IsSought sought s.indexed.now first w.later.event
    first_inside =
        let at = in_window in
        subst (λ (a : ℕ). IsPair s.indexed.now.events a w.later.event × IsSought sought s.indexed.now a w.later.event) at.3 (window.inside at.0 at.1 at.2)

    pub first_of : IsOf s.indexed.now.events (of_window w) first w.later.event
    first_of =
        let at = in_window in
        subst (λ (a : ℕ). IsOf s.indexed.now.events (of_window w) a w.later.event) at.3
        (of_these s w.lane.now w.later window.lanes at.0 w.later.event (omega (arith, at.2, window.within)) window.lanes.one.here)

    pub first_holds : (leasts : List Least) → Has sought s leasts (of_window w) first w.later.event → (k : ℕ) → w.from ≤ k → k < w.end
        → Contains g.events.items (at_place w.lane.now k) → first ≤ at_place w.lane.now k → Has sought s leasts (of_window w) (at_place w.lane.now k) w.later.event
    first_holds leasts has k from to in_bunch up =
        let e = at_place w.lane.now k in
        let P = λ (d : ℕ). slice_index s.classes.now.numbers.items d ≡ g.class in
        let one = All-contains P g.events.items first bunch_is.of_class there in
        let other = All-contains P g.events.items e bunch_is.of_class in_bunch in
        let early = before_it s w.lane.now w.later window.lanes k (omega (arith, to, window.within)) in
        let inside = later_within s w.lane.now w.later window.lanes in
        Has-onward sought s sound leasts (of_window w) first e w.later.event up (omega (arith, early, inside)) inside (one ∙ sym other) has
