-- The lanes of a variable in the making, and its accesses.
use Rattle.std.proofs.Common.{◌≡◌, ◌≢◌, ℕ, ◌+◌, ◌<◌, ◌≤◌, ◌⊎◌, Bool, true, false, cond, List, [], ◌∷◌, ◌++◌, Vec, All, Contains, filter, length, slice_index, set, Some, sym, ap, ◌∙◌, subst, arith, inl, inr, append-nil, length-append}
use Rattle.std.specs.List.{slice_get}
use Rattle.std.specs.declared.alloc.Global.{Global}
use Rattle.std.proofs.lemmas.Bool.{cases_Bool, cases_eq}
use Rattle.std.proofs.lemmas.List.Elements.{All-contains, All-nil, All-push, All-same, All-weaker, Contains-append_left, Contains-push}
use Rattle.std.proofs.lemmas.Option.{same_Some, slice_get_within}
use Rattle.rapid_text.specs.Recording.{Recording, IsNamedOp}
use Rattle.rapid_text.specs.declared.event.Event.{Event}
use Rattle.rapid_text.specs.declared.event.Op.{Op}
use Rattle.event_index.specs.Events.{passes_by}
use Rattle.event_index.specs.Lookups.{before, place_of}
use Rattle.event_index.specs.Relations.{is_access}
use Rattle.event_index.proofs.CallerLemmas.{filter_more_before}
use Rattle.trace_rules.proofs.Counts.{slice_get-set}
use Rattle.race_groups.proofs.BuildLemmas.{get_either}
use Rattle.race_groups.specs.least_pairs.Lanes.{AreAccesses, IsBunch, IsInBunches, IsInLane, IsInLanes, IsLater, IsPrevious, IsRising, access_op}
use Rattle.race_groups.specs.least_pairs.Making.{AreBegun, AreLanesGrown, IsBegun, IsEventAdded, IsOfBunch}
use Rattle.race_groups.specs.least_pairs.Pairs.{is_access_at}
use Rattle.race_groups.specs.declared.least_pairs.lanes.Access.{Access}
use Rattle.race_groups.specs.declared.least_pairs.lanes.Lane.{Lane}
use Rattle.race_groups.specs.declared.least_pairs.lanes.Later.{Later}
use Rattle.race_groups.proofs.least_pairs.BasicLemmas.{access_is, access_one}
use Rattle.race_groups.proofs.least_pairs.BunchLemmas.{Contains-from, bunches_are, bunches_cover, none_in, push_cases, push_here, push_there, rises_push, set_here, set_there, slice_get-from}

-- the variable of an access has a name
pub access_named : (r : Recording) (w : Bool) (x : ℕ) → IsNamedOp r (access_op w x) → x < length r.variables
access_named r true x named = named
access_named r false x named = named

-- the accesses of the variable, one event further
module _ (T : List Event) (n : ℕ) (v : Event) (found : slice_get T n ≡ Some v) where
  here_is : (x : ℕ) → is_access_at T x n ≡ is_access x v.op
  here_is x = ap (passes_by (λ (w : Event). is_access x w.op)) found

  further : (x : ℕ) (b : Bool) → is_access x v.op ≡ b → filter (is_access_at T x) (before (n + 1)) ≡ filter (is_access_at T x) (before n) ++ cond b (n ∷ []) []
  further x b is = filter_more_before (is_access_at T x) n ∙ ap (λ c. filter (is_access_at T x) (before n) ++ cond c (n ∷ []) []) (here_is x ∙ is)

  pub AreAccesses-none : (accesses : List (Vec ℕ Global)) → ((x : ℕ) → is_access x v.op ≢ true) → AreAccesses T n accesses → AreAccesses T (n + 1) accesses
  AreAccesses-none accesses none are x u at = elim (cases_Bool (is_access x v.op)) [
    | inl holds ↦ absurd (none x holds)
    | inr fails ↦ are x u at ∙ sym (further x false fails ∙ append-nil (filter (is_access_at T x) (before n)))
  ]

  pub AreAccesses-push : (accesses : List (Vec ℕ Global)) (w : Bool) (x : ℕ) (u more : Vec ℕ Global)
      → v.op ≡ access_op w x → slice_get accesses x ≡ Some u → more.items ≡ u.items ++ n ∷ []
      → AreAccesses T n accesses → AreAccesses T (n + 1) (set accesses x more)
  AreAccesses-push accesses w x u more op here pushed are y t at =
      elim (slice_get-set accesses x y more t (slice_get_within accesses x u here) at) [
        | inl mine ↦
            ap (λ (s : Vec ℕ Global). s.items) (sym mine.1)
            ∙ pushed
            ∙ ap (λ xs. xs ++ n ∷ []) (are x u here)
            ∙ sym (further x true (ap (is_access x) op ∙ access_is w x))
            ∙ ap (λ z. filter (is_access_at T z) (before (n + 1))) (sym mine.0)
        | inr other ↦ elim (cases_Bool (is_access y v.op)) [
          | inl holds ↦ absurd (other.0 (sym (access_one w x y (ap (is_access y) (sym op) ∙ holds))))
          | inr fails ↦ are y t other.1 ∙ sym (further y false fails ∙ append-nil (filter (is_access_at T y) (before n)))
        ]
      ]

-- one list more, an empty one
pub AreAccesses-begin : (T : List Event) (accesses : List (Vec ℕ Global)) (w : Vec ℕ Global) → w.items ≡ []
    → AreAccesses T 0 accesses → AreAccesses T 0 (accesses ++ w ∷ [])
AreAccesses-begin T accesses w empty are x v at =
    elim (get_either accesses w x v at) [
      | inl old ↦ are x v old
      | inr is ↦ ap (λ (t : Vec ℕ Global). t.items) (sym is) ∙ empty
    ]

abbrev pub event_of : ℕ → Op → Event
event_of t op = record { thread = t; op = op }

-- a lane with one event more
module _ (T : List Event) (numbers : List ℕ) (x : ℕ) (a : Access) (old new : Lane) (is : IsBegun T numbers x a.event old) (added : IsEventAdded a old new) (mine : IsInLane T x old a.event)
    (placed : a.place ≡ place_of T a.event) (class : a.class ≡ slice_index numbers a.event) where
  IsInLane-same : (e : ℕ) → IsInLane T x old e → IsInLane T x new e
  IsInLane-same e at =
      at
      ∙ ap (λ t. Some (event_of t (access_op old.is_writing x))) (sym added.thread)
      ∙ ap (λ w. Some (event_of new.thread (access_op w x))) (sym added.is_writing)

  all_in : All (IsInLane T x new) new.events.items
  all_in =
      All-same (IsInLane T x new) new.events.items (old.events.items ++ a.event ∷ []) added.events
      (All-push (IsInLane T x new) old.events.items a.event
      (All-weaker (IsInLane T x old) (IsInLane T x new) IsInLane-same old.events.items is.plain.events) (IsInLane-same a.event mine))

  old_len : length old.places.items ≡ length old.events.items
  old_len = is.plain.places_len

  cases : (k : ℕ) → k < length new.events.items → (k ≡ length old.events.items) ⊎ (k < length old.events.items)
  cases k lt = push_cases old.events.items a.event k (subst (λ (xs : List ℕ). k < length xs) added.events lt)

  placed_at : (k : ℕ) → k < length new.events.items → slice_index new.places.items k ≡ place_of T (slice_index new.events.items k)
  placed_at k within = elim (cases k within) [
    | inl last ↦
        ap (λ xs. slice_index xs k) added.places
        ∙ push_here old.places.items a.place k (omega (arith, last, old_len))
        ∙ placed
        ∙ ap (place_of T) (sym (ap (λ xs. slice_index xs k) added.events ∙ push_here old.events.items a.event k last))
    | inr low ↦
        ap (λ xs. slice_index xs k) added.places
        ∙ push_there old.places.items a.place k (omega (arith, low, old_len))
        ∙ is.plain.places k low
        ∙ ap (place_of T) (sym (ap (λ xs. slice_index xs k) added.events ∙ push_there old.events.items a.event k low))
  ]

  pub IsBegun-added : IsBegun T numbers x (a.event + 1) new
  IsBegun-added = record {
    plain = record {
      events = all_in;
      rising = subst IsRising (sym added.events) (rises_push old.events.items a.event is.plain.rising is.below);
      places_len =
          ap length added.places ∙ length-append old.places.items (a.place ∷ [])
          ∙ ap (λ n. n + 1) old_len
          ∙ sym (length-append old.events.items (a.event ∷ []))
          ∙ sym (ap length added.events);
      places = placed_at;
      last =
          All-same (λ p. p ≤ new.last) new.places.items (old.places.items ++ a.place ∷ []) added.places
          (All-push (λ p. p ≤ new.last) old.places.items a.place
          (All-weaker (λ p. p ≤ old.last) (λ p. p ≤ new.last) (λ p le. omega (arith, le, added.last.0)) old.places.items is.plain.last) added.last.1);
      bunches =
          subst (λ (es : List ℕ). All (IsBunch numbers es) new.bunches.items) (sym added.events)
          (bunches_are numbers old.events.items a.class a.event old.bunches.items new.bunches.items added.bunches is.plain.bunches is.plain.covered is.below class);
      covered =
          All-same (IsInBunches new.bunches.items) new.events.items (old.events.items ++ a.event ∷ []) added.events
          (bunches_cover numbers old.events.items a.class a.event old.bunches.items new.bunches.items added.bunches is.plain.bunches is.plain.covered is.below class);
    };
    below =
        All-same (λ e. e < a.event + 1) new.events.items (old.events.items ++ a.event ∷ []) added.events
        (All-push (λ e. e < a.event + 1) old.events.items a.event
        (All-weaker (λ e. e < a.event) (λ e. e < a.event + 1) (λ e lt. omega arith) old.events.items is.below) (omega arith));
  }

-- the event belongs in the lane of its thread and of what it does
pub IsInLane-of : (T : List Event) (x event : ℕ) (w : Bool) (v : Event) (l : Lane)
    → slice_get T event ≡ Some v → v.op ≡ access_op w x → l.thread ≡ v.thread → l.is_writing ≡ w → IsInLane T x l event
IsInLane-of T x event w v l found op thread writing =
    found
    ∙ ap (λ o. Some (event_of v.thread o)) (op ∙ ap (λ u. access_op u x) (sym writing))
    ∙ ap (λ t. Some (event_of t (access_op l.is_writing x))) (sym thread)

-- an event of a bunch of the class is one before this one
pub IsPrevious-of : (T : List Event) (numbers : List ℕ) (x class : ℕ) (l : Lane) (later : Later) (e : ℕ)
    → IsBegun T numbers x later.event l → l.thread ≡ later.thread → l.is_writing ≡ later.is_writing → x ≡ later.variable → class ≡ slice_index numbers later.event
    → IsOfBunch l.bunches.items class e → IsPrevious T numbers later e
IsPrevious-of T numbers x class l later e is thread writing variable mine h =
    let g = All-contains (IsBunch numbers l.events.items) l.bunches.items h.bunch is.plain.bunches h.among in
    let there = All-contains (Contains l.events.items) h.bunch.events.items e g.among h.at in
    record {
      before = All-contains (λ d. d < later.event) l.events.items e is.below there;
      same =
          All-contains (IsInLane T x l) l.events.items e is.plain.events there
          ∙ ap (λ t. Some (event_of t (access_op l.is_writing x))) thread
          ∙ ap (λ w. Some (event_of later.thread (access_op w x))) writing
          ∙ ap (λ y. Some (event_of later.thread (access_op later.is_writing y))) variable;
      of_class = All-contains (λ d. slice_index numbers d ≡ h.bunch.class) h.bunch.events.items e g.of_class h.at ∙ h.class_is ∙ mine;
    }

-- a lane with no events
IsBegun-empty : (T : List Event) (numbers : List ℕ) (x n : ℕ) (l : Lane) → l.events.items ≡ [] → l.places.items ≡ [] → l.bunches.items ≡ [] → IsBegun T numbers x n l
IsBegun-empty T numbers x n l none places bunches =
    let len = ap length none in
    record {
      plain = record {
        events = All-same (IsInLane T x l) l.events.items [] none (All-nil (IsInLane T x l));
        rising = λ i k lt within. absurd (omega arith);
        places_len = ap length places ∙ sym len;
        places = λ k within. absurd (omega arith);
        last = All-same (λ p. p ≤ l.last) l.places.items [] places (All-nil (λ p. p ≤ l.last));
        bunches = All-same (IsBunch numbers l.events.items) l.bunches.items [] bunches (All-nil (IsBunch numbers l.events.items));
        covered = All-same (IsInBunches l.bunches.items) l.events.items [] none (All-nil (IsInBunches l.bunches.items));
      };
      below = All-same (λ e. e < n) l.events.items [] none (All-nil (λ e. e < n));
    }

-- a lane whose events are below n is one whose events are below what is no less
pub IsBegun-later : (T : List Event) (numbers : List ℕ) (x n m : ℕ) (l : Lane) → n ≤ m → IsBegun T numbers x n l → IsBegun T numbers x m l
IsBegun-later T numbers x n m l le is = record {
  plain = is.plain;
  below = All-weaker (λ e. e < n) (λ e. e < m) (λ e lt. omega arith) l.events.items is.below;
}

-- one lane more, where there is one
pub AreBegun-grown : (T : List Event) (numbers : List ℕ) (x n : ℕ) (lanes grown : List Lane)
    → AreLanesGrown lanes grown → AreBegun T numbers x n lanes → AreBegun T numbers x n grown
AreBegun-grown T numbers x n lanes grown (inl same) are k l at = are k l (ap (λ xs. slice_get xs k) (sym same) ∙ at)
AreBegun-grown T numbers x n lanes grown (inr more) are k l at =
    elim (get_either lanes more.lane k l (ap (λ xs. slice_get xs k) (sym more.added) ∙ at)) [
      | inl old ↦ are k l old
      | inr new ↦ subst (IsBegun T numbers x n) new (IsBegun-empty T numbers x n more.lane more.events more.places more.bunches)
    ]

pub IsInLanes-grown : (lanes grown : List Lane) (e : ℕ) → AreLanesGrown lanes grown → IsInLanes lanes e → IsInLanes grown e
IsInLanes-grown lanes grown e (inl same) is = subst (λ (xs : List Lane). IsInLanes xs e) (sym same) is
IsInLanes-grown lanes grown e (inr more) is =
    subst (λ (xs : List Lane). IsInLanes xs e) (sym more.added) (record {
      lane = is.lane;
      among = Contains-append_left lanes (more.lane ∷ []) is.lane is.among;
      at = is.at;
    })

-- a lane in the place of another
module _ (lanes : List Lane) (number : ℕ) (old new : Lane) (here : slice_get lanes number ≡ Some old) where
  pub set_each : (P : Lane → Type 0) → ((k : ℕ) (l : Lane) → slice_get lanes k ≡ Some l → P l) → P new
      → (k : ℕ) (l : Lane) → slice_get (set lanes number new) k ≡ Some l → P l
  set_each P each holds k l at = elim (slice_get-set lanes number k new l (slice_get_within lanes number old here) at) [
    | inl mine ↦ subst P mine.1 holds
    | inr other ↦ each k l other.1
  ]

  pub IsInLanes-set : (e : ℕ) → (Contains old.events.items e → Contains new.events.items e) → IsInLanes lanes e → IsInLanes (set lanes number new) e
  IsInLanes-set e kept is =
      let k = is.among.0 in
      let at = slice_get-from lanes is.lane is.among in
      elim (cases_eq k number) [
        | inl same ↦
            let one : is.lane ≡ old = same_Some is.lane old (sym at ∙ ap (slice_get lanes) same ∙ here) in
            record {
              lane = new;
              among = Contains-from (set lanes number new) number new (set_here lanes number old new here);
              at = kept (subst (λ (l : Lane). Contains l.events.items e) one is.at);
            }
        | inr apart ↦ record {
          lane = is.lane;
          among = Contains-from (set lanes number new) k is.lane (set_there lanes number k is.lane new apart at);
          at = is.at;
        }
      ]

  pub IsInLanes-here : (e : ℕ) → Contains new.events.items e → IsInLanes (set lanes number new) e
  IsInLanes-here e there = record {
    lane = new;
    among = Contains-from (set lanes number new) number new (set_here lanes number old new here);
    at = there;
  }

-- what was in the lane stays in it, and the event comes to it
pub added_kept : (a : Access) (old new : Lane) → IsEventAdded a old new → (e : ℕ) → Contains old.events.items e → Contains new.events.items e
added_kept a old new added e there =
    subst (λ (xs : List ℕ). Contains xs e) (sym added.events) (Contains-append_left old.events.items (a.event ∷ []) e there)

pub added_here : (a : Access) (old new : Lane) → IsEventAdded a old new → Contains new.events.items a.event
added_here a old new added = subst (λ (xs : List ℕ). Contains xs a.event) (sym added.events) (Contains-push old.events.items a.event)
