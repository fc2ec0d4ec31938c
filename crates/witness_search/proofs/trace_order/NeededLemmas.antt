-- The events that are needed: their list is a correct reordering, and the least one.
use Rattle.std.proofs.Common.{◌≡◌, ℕ, ◌<◌, List, length, Contains, Some, get_or, sym, subst, arith, inl, inr}
use Rattle.std.specs.List.{slice_get}
use Rattle.std.proofs.lemmas.List.Elements.{Contains-get_or}
use Rattle.std.proofs.lemmas.Option.{slice_get-get_or}
use Rattle.rapid_text.specs.declared.event.Event.{Event}
use Rattle.rapid_text.specs.declared.event.Op.TheVariants.{Read}
use Rattle.trace_rules.specs.Rules.{IsDisciplined}
use Rattle.event_index.specs.Lookups.{base_of}
use Rattle.event_index.proofs.CallerLemmas.{base_of-within, fork_of-op, thread_here}
use Rattle.shb_clocks.proofs.CallerLemmas.{base-after, base-after_fork}
use Rattle.schedule.specs.Reordering.{IsCorrectReordering}
use Rattle.schedule.specs.Shows.{IsReady, Shows}
use Rattle.must_order.proofs.OrderLemmas.{Link-earlier}
use Rattle.must_order.proofs.ReadyLemmas.{base_of-ready}
use Rattle.must_order.proofs.SectionLemmas.{section_end-is}
use Rattle.witness_search.specs.trace_order.InOrder.{IsNeeded, started, linked, closed, IsBaseOfPair, AreNeeded, IsNeededFor}
use Rattle.witness_search.specs.trace_order.Laws.{IsClosedIn, IsRising, RisingReorderingsAreClosed, InOrderIsSound, InOrderIsLeast, IsBaseOf, ReadyInOrderIsLeast}
use Rattle.witness_search.proofs.trace_order.ClosedLemmas.{closed_thread, closed_fork, IsCorrectReordering-closed}
use Rattle.witness_search.proofs.trace_order.RisingLemmas.{IsClosedIn-rising}

pub closed_law : RisingReorderingsAreClosed
closed_law T P rules rising in_trace = (
  λ is. IsClosedIn-rising T rules P rising is,
  λ also. IsCorrectReordering-closed T rules P rising in_trace also,
)

-- what is needed is closed, and in each closed set that has the start
pub IsClosedIn-needed : (T : List Event) (start : ℕ → Type 0) → IsClosedIn T (IsNeeded T start)
IsClosedIn-needed T start = record {
  links = λ d e one s. linked d e s one;
  sections = λ p r e s has also. closed p r e has also s;
}

pub needed_in : (T : List Event) (start S : ℕ → Type 0) → IsClosedIn T S → ((e : ℕ) → start e → S e) → (e : ℕ) → IsNeeded T start e → S e
needed_in T start S is has e (started _ from) = has e from
needed_in T start S is has e (linked _ m need one) = is.links e m one (needed_in T start S is has m need)
needed_in T start S is has e (closed p _ m need also s) =
    is.sections p e m s (needed_in T start S is has p need) (needed_in T start S is has m also)

-- the members of a list of what is needed are events, where those at which it starts are
IsNeeded-within : (T : List Event) → IsDisciplined T → (start : ℕ → Type 0) → ((e : ℕ) → start e → e < length T) → (e : ℕ) → IsNeeded T start e → e < length T
IsNeeded-within T rules start low e need =
    needed_in T start (λ k. k < length T)
    (record {
      links = λ d m one lt. omega (arith, lt, Link-earlier T rules d m one);
      sections = λ p r m s has also. (section_end-is T p s.lock s.owner r s.first s.of_owner s.ends).1;
    })
    low e need

pub IsCorrectReordering-needed : (T : List Event) → IsDisciplined T → (start : ℕ → Type 0) → ((e : ℕ) → start e → e < length T) → (P : List ℕ) → AreNeeded T start P → IsCorrectReordering T P
IsCorrectReordering-needed T rules start low P are =
    IsCorrectReordering-closed T rules P are.rising
    (λ k d lt. IsNeeded-within T rules start low (get_or P k d) ((are.members (get_or P k d)).0 (Contains-get_or P k d lt)))
    (record {
      links = λ d e one m. (are.members d).1 (linked d e ((are.members e).0 m) one);
      sections = λ p r e s has also. (are.members r).1 (closed p r e ((are.members p).0 has) ((are.members e).0 also) s);
    })

-- an event is ready after a closed list that has its base and not itself
module _ (T : List Event) (rules : IsDisciplined T) (P : List ℕ) (is : IsClosedIn T (Contains P)) where
  pub IsReady-closed : (a : ℕ) (v : Event) → slice_get T a ≡ Some v → ((b : ℕ) → base_of T a ≡ Some b → Contains P b) → ¬ Contains P a → IsReady T P a
  IsReady-closed a v at has fresh = record {
    thread = v.thread;
    of_thread = thread_here T a v at;
    fresh = fresh;
    earlier = λ d early of.
        let b = base-after T a v at d early of in
        closed_thread T rules (Contains P) is d b.0 v.thread of b.2 b.3 (has b.0 b.1);
    fork = λ f forks.
        let op = fork_of-op T v.thread f forks in
        let b = base-after_fork T a v at rules f op in
        elim b.2 [
          | inl also ↦ closed_fork T rules (Contains P) is f b.0 v.thread op also (has b.0 b.1)
          | inr one ↦ subst (Contains P) (sym one) (has b.0 b.1)
        ];
  }

-- the bases of a pair are events
pair_within : (T : List Event) → IsDisciplined T → (a b e : ℕ) → IsBaseOfPair T a b e → e < length T
pair_within T rules a b e (inl base) = base_of-within T rules a e base
pair_within T rules a b e (inr base) = base_of-within T rules b e base

pub sound_law : InOrderIsSound
sound_law T P a b rules are =
    let is : IsCorrectReordering T P = IsCorrectReordering-needed T rules (IsBaseOfPair T a b) (pair_within T rules a b) P are in
    let also : IsClosedIn T (Contains P) = IsClosedIn-rising T rules P are.rising is in (
      is,
      (
        λ shows. record {
          conflict = shows.conflict;
          first = λ need. shows.first.fresh ((are.members a).1 need);
          second = λ need. shows.second.fresh ((are.members b).1 need);
        },
        λ has. record {
          conflict = has.conflict;
          first =
              IsReady-closed T rules P also a has.conflict.v has.conflict.first (λ c base. (are.members c).1 (started c (inl base)))
              (λ m. has.first ((are.members a).0 m));
          second =
              IsReady-closed T rules P also b has.conflict.w has.conflict.second (λ c base. (are.members c).1 (started c (inr base)))
              (λ m. has.second ((are.members b).0 m));
        },
      ),
    )

-- a list in the order of the trace has what is needed for a pair that it shows
pub needed_shown : (T : List Event) → IsDisciplined T → (P : List ℕ) → IsRising P → IsCorrectReordering T P → (a b : ℕ) → Shows T P a b → (e : ℕ) → IsNeededFor T a b e → Contains P e
needed_shown T rules P rising is a b shows e need =
    needed_in T (IsBaseOfPair T a b) (Contains P) (IsClosedIn-rising T rules P rising is)
    (λ c base. elim base [
      | inl first ↦ base_of-ready T P is a shows.first c first
      | inr second ↦ base_of-ready T P is b shows.second c second
    ])
    e need

pub least_law : InOrderIsLeast
least_law T P a b rules rising is shows = (
  record {
    conflict = shows.conflict;
    first = λ need. shows.first.fresh (needed_shown T rules P rising is a b shows a need);
    second = λ need. shows.second.fresh (needed_shown T rules P rising is a b shows b need);
  },
  λ e need. needed_shown T rules P rising is a b shows e need,
)

-- the same for one event
pub ready_law : ReadyInOrderIsLeast
ready_law T P a rules within are =
    let is : IsCorrectReordering T P = IsCorrectReordering-needed T rules (IsBaseOf T a) (λ e base. base_of-within T rules a e base) P are in
    let also : IsClosedIn T (Contains P) = IsClosedIn-rising T rules P are.rising is in
    let v : Event = get_or T a (record { thread = 0; op = Read 0 }) in
    let at : slice_get T a ≡ Some v = slice_get-get_or T a _ within in (
      is,
      (
        λ ready need. ready.fresh ((are.members a).1 need),
        λ free. IsReady-closed T rules P also a v at (λ c base. (are.members c).1 (started c base)) (λ m. free ((are.members a).0 m)),
      ),
      λ Q rising correct ready e m.
          needed_in T (IsBaseOf T a) (Contains Q) (IsClosedIn-rising T rules Q rising correct) (λ c base. base_of-ready T Q correct a ready c base) e ((are.members e).0 m),
    )
