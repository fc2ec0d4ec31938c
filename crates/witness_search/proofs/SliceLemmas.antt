-- The slice of a candidate is a correct reordering, and shows the pair.
use Rattle.std.proofs.Common.{◌≡◌, ◌≢◌, ℕ, ◌<◌, ◌≤◌, List, length, get_or, Contains, Some, slice_get, sym, refl, ap, ◌∙◌, arith, inl, inr}
use Rattle.std.proofs.lemmas.Bool.{cases_order}
use Rattle.std.proofs.lemmas.List.Elements.{All-contains, Contains-get_or}
use Rattle.std.proofs.lemmas.Option.{same_Some, slice_get_within}
use Rattle.rapid_text.specs.declared.event.Event.{Event}
use Rattle.trace_rules.specs.Rules.{IsDisciplined}
use Rattle.event_index.specs.Events.{is_of_thread}
use Rattle.event_index.specs.Lookups.{base_of, fork_of}
use Rattle.event_index.specs.Relations.{IsConflicting}
use Rattle.event_index.proofs.CallerLemmas.{base_by-some, base_of-earlier, base_of-within, fork_of-op, find_last_is, IsConflicting-sym}
use Rattle.shb_clocks.specs.HappensBefore.{Edge, by_fork, same, chain}
use Rattle.shb_clocks.specs.Candidates.{IsCandidate, IsCandidatePair}
use Rattle.shb_clocks.proofs.CallerLemmas.{IsShbBefore-trans, IsShbBefore-le, along_thread, base-after, base-after_fork, is_of_thread-thread, thread_here}
use Rattle.schedule.specs.Refusals.{is_in}
use Rattle.schedule.specs.Reordering.{IsCorrectReordering}
use Rattle.schedule.specs.Shows.{IsReady, Shows}
use Rattle.schedule.proofs.CallerLemmas.{is_in-true, is_in-member, Shows-sym}
use Rattle.witness_search.specs.Closed.{IsClosed, IsShbClosed, IsClosedBelow}
use Rattle.witness_search.specs.Slices.{IsBelowBase, IsBelowPair, IsSlice, IsLeast, IsNeverShown, AreThere, IsRefusalOf}
use Rattle.witness_search.specs.declared.refusal.SliceRefusal.{SliceRefusal}
use Rattle.witness_search.specs.declared.refusal.SliceRefusal.TheVariants.{NoSuchEvent, NotConflicting, NotCandidate, OutOfMemory}
use Rattle.witness_search.proofs.ClosedLemmas.{IsCorrectReordering-kept}
use Rattle.witness_search.proofs.RisingLemmas.{rising-unique, rising-kept}

-- an edge leads down
IsBelowBase-edge : (T : List Event) (a d e : ℕ) → Edge T d e → IsBelowBase T a e → IsBelowBase T a d
IsBelowBase-edge T a d e edge (c, base, before) = (c, base, IsShbBefore-trans T d e c (chain d e (same d refl) edge) before)

IsBelowPair-edge : (T : List Event) (a b d e : ℕ) → Edge T d e → IsBelowPair T a b e → IsBelowPair T a b d
IsBelowPair-edge T a b d e edge (inl first) = inl (IsBelowBase-edge T a d e edge first)
IsBelowPair-edge T a b d e edge (inr second) = inr (IsBelowBase-edge T b d e edge second)

IsBelowBase-within : (T : List Event) → IsDisciplined T → (a e : ℕ) → IsBelowBase T a e → e < length T
IsBelowBase-within T rules a e (c, base, before) = omega (arith, base_of-within T rules a c base, IsShbBefore-le T rules e c before)

pub IsBelowPair-within : (T : List Event) → IsDisciplined T → (a b e : ℕ) → IsBelowPair T a b e → e < length T
IsBelowPair-within T rules a b e (inl first) = IsBelowBase-within T rules a e first
IsBelowPair-within T rules a b e (inr second) = IsBelowBase-within T rules b e second

-- an event is not below its own base
not_below_own : (T : List Event) → IsDisciplined T → (a e : ℕ) → a ≤ e → IsBelowBase T a e → ⊥
not_below_own T rules a e le (c, base, before) = omega (arith, base_of-earlier T rules a c base, IsShbBefore-le T rules e c before)

-- an event is ready after a list that has what is below its base, and not itself
IsReady-below : (T : List Event) → IsDisciplined T → (P : List ℕ) (a : ℕ) (v : Event) → slice_get T a ≡ Some v → ((d : ℕ) → IsBelowBase T a d → Contains P d) → (Contains P a → ⊥) → IsReady T P a
IsReady-below T rules P a v at has fresh = record {
  thread = v.thread;
  of_thread = thread_here T a v at;
  fresh = fresh;
  earlier = λ d early of.
      let (b, base, also, low) = base-after T a v at d early of in
      has d (b, base, along_thread T d d b v.thread (same d refl) of also low);
  fork = λ f forks.
      let op = fork_of-op T v.thread f forks in
      let (b, base, either) = base-after_fork T a v at rules f op in
      has f (b, base, elim either [ inl of ↦ chain f b (same f refl) (by_fork v.thread op of) | inr is ↦ same b is ]);
}

IsBelowPair-sym : (T : List Event) (a b e : ℕ) → IsBelowPair T a b e → IsBelowPair T b a e
IsBelowPair-sym T a b e (inl first) = inr first
IsBelowPair-sym T a b e (inr second) = inl second

pub IsSlice-sym : (T : List Event) (a b : ℕ) (P : List ℕ) → IsSlice T a b P → IsSlice T b a P
IsSlice-sym T a b P is = record {
  rising = is.rising;
  members = λ e. (λ m. IsBelowPair-sym T a b e ((is.members e).0 m), λ below. (is.members e).1 (IsBelowPair-sym T b a e below));
}

-- A list that is closed downwards under SHB is a correct reordering.
pub IsCorrectReordering-closed : (T : List Event) → IsDisciplined T → (P : List ℕ) → IsClosedBelow T P → IsCorrectReordering T P
IsCorrectReordering-closed T rules P is =
    rw (rising-kept P (length T) is.rising (λ e m. All-contains (λ (d : ℕ). d < length T) P e is.in_trace m))
    (IsCorrectReordering-kept T rules (is_in P) (λ d e edge within. is_in-member P d (is.closed d e edge (is_in-true P e within))))

-- A list that is closed along edges is closed under the order; a conflicting pair that it shows is a candidate.
module _ (T : List Event) (P : List ℕ) (is : IsClosed T P) where
  pub IsShbClosed-closed : IsShbClosed T P
  IsShbClosed-closed d e (same _ one) m = rw one m
  IsShbClosed-closed d e (chain k _ before edge) m = IsShbClosed-closed d k before (is k e edge m)

  -- what is below the base of a ready event is in the list
  ready_has_base : (a : ℕ) → IsReady T P a → (c : ℕ) → base_of T a ≡ Some c → Contains P c
  ready_has_base a ready c base =
      let (v, found, either) = base_by-some T a c (slice_get T a) base in
      let thread : v.thread ≡ ready.thread = same_Some v.thread ready.thread (sym (thread_here T a v found) ∙ ready.of_thread) in
      elim either [
        | inl before_it ↦
            let last = find_last_is (is_of_thread T v.thread) a c before_it in
            ready.earlier c last.0 (is_of_thread-thread T v.thread c last.1 ∙ ap Some thread)
        | inr first ↦ ready.fork c (ap (fork_of T) (sym thread) ∙ first.1)
      ]

  pub ready_has_below : (a e : ℕ) → IsReady T P a → IsBelowBase T a e → Contains P e
  ready_has_below a e ready (c, base, before) = IsShbClosed-closed e c before (ready_has_base a ready c base)

  pub IsCandidate-shown : (a b : ℕ) → a < b → Shows T P a b → IsCandidate T a b
  IsCandidate-shown a b early shows = record {
    conflict = shows.conflict;
    earlier = early;
    apart = λ c base before. shows.first.fresh (ready_has_below b a shows.second (c, base, before));
  }

  -- no event conflicts with itself
  apart_in_conflict : (a b : ℕ) → a ≡ b → IsConflicting T a b → ⊥
  apart_in_conflict a b one conflict =
      let v : Some conflict.v ≡ Some conflict.w = sym conflict.first ∙ ap (slice_get T) one ∙ conflict.second in
      conflict.clash.threads (ap (λ (e : Event). e.thread) (same_Some conflict.v conflict.w v))

  pub IsCandidatePair-shown : (a b : ℕ) → Shows T P a b → IsCandidatePair T a b
  IsCandidatePair-shown a b shows =
      elim (cases_order a b) [
        | inl one ↦ absurd (apart_in_conflict a b one shows.conflict)
        | inr either ↦ elim either [ inl early ↦ inl (IsCandidate-shown a b early shows) | inr late ↦ inr (IsCandidate-shown b a late (Shows-sym T P a b shows)) ]
      ]

  -- and the list has the whole slice of the pair
  pub slice-least : (a b e : ℕ) → Shows T P a b → IsBelowPair T a b e → Contains P e
  slice-least a b e shows (inl first) = ready_has_below a e shows.first first
  slice-least a b e shows (inr second) = ready_has_below b e shows.second second

module _ (T : List Event) (rules : IsDisciplined T) (a b : ℕ) (P : List ℕ) (is : IsSlice T a b P) where
  -- The slice of any two events is closed downwards under SHB.
  pub IsClosedBelow-slice : IsClosedBelow T P
  IsClosedBelow-slice = record {
    rising = is.rising;
    in_trace = λ k d low. IsBelowPair-within T rules a b (get_or P k d) ((is.members (get_or P k d)).0 (Contains-get_or P k d low));
    closed = λ d e edge m. (is.members d).1 (IsBelowPair-edge T a b d e edge ((is.members e).0 m));
  }

  pub IsShbClosed-slice : IsShbClosed T P
  IsShbClosed-slice = IsShbClosed-closed T P IsClosedBelow-slice.closed

  pub IsCorrectReordering-slice : IsCorrectReordering T P
  IsCorrectReordering-slice = IsCorrectReordering-closed T rules P IsClosedBelow-slice

  -- The slice of a candidate shows it.
  pub Shows-candidate : IsCandidate T a b → Shows T P a b
  Shows-candidate cand = record {
    conflict = cand.conflict;
    first =
        IsReady-below T rules P a cand.conflict.v cand.conflict.first (λ d below. (is.members d).1 (inl below))
        (λ m. elim ((is.members a).0 m) [
          | inl own ↦ not_below_own T rules a a (omega arith) own
          | inr other ↦ cand.apart other.0 other.1 other.2
        ]);
    second =
        IsReady-below T rules P b cand.conflict.w cand.conflict.second (λ d below. (is.members d).1 (inr below))
        (λ m. elim ((is.members b).0 m) [
          | inl other ↦ not_below_own T rules a b (omega (arith, cand.earlier)) other
          | inr own ↦ not_below_own T rules b b (omega arith) own
        ]);
  }

-- The slice of a pair that is a candidate in one order or the other shows it.
pub Shows-slice : (T : List Event) → IsDisciplined T → (a b : ℕ) (P : List ℕ) → IsSlice T a b P → IsCandidatePair T a b → Shows T P a b
Shows-slice T rules a b P is (inl cand) = Shows-candidate T rules a b P is cand
Shows-slice T rules a b P is (inr cand) = Shows-sym T P b a (Shows-candidate T rules b a P (IsSlice-sym T a b P is) cand)

-- the slice of a pair is one list
pub IsSlice-unique : (T : List Event) (a b : ℕ) (P Q : List ℕ) → IsSlice T a b P → IsSlice T a b Q → P ≡ Q
IsSlice-unique T a b P Q is also =
    rising-unique P Q is.rising also.rising (λ e m. (also.members e).1 ((is.members e).0 m)) (λ e m. (is.members e).1 ((also.members e).0 m))

IsConflicting-there : (T : List Event) (a b : ℕ) → IsConflicting T a b → AreThere T a b
IsConflicting-there T a b f = (slice_get_within T a f.v f.first, slice_get_within T b f.w f.second)

-- a cause other than want of memory tells that nothing shows the pair
pub IsNeverShown-refused : (T : List Event) (a b : ℕ) (why : SliceRefusal) → IsRefusalOf T a b why → why ≢ OutOfMemory → IsNeverShown T a b
IsNeverShown-refused T a b NoSuchEvent is other Q closed shows = is (IsConflicting-there T a b shows.conflict)
IsNeverShown-refused T a b NotConflicting is other Q closed shows = is.1 shows.conflict
IsNeverShown-refused T a b NotCandidate is other Q closed shows = is.1 (IsCandidatePair-shown T Q closed a b shows)
IsNeverShown-refused T a b OutOfMemory is other Q closed shows = other refl

pub IsLeast-slice : (T : List Event) (a b : ℕ) (P : List ℕ) → IsSlice T a b P → IsLeast T a b P
IsLeast-slice T a b P is Q closed shows e m = slice-least T Q closed a b e shows ((is.members e).0 m)

IsCandidatePair-conflict : (T : List Event) (a b : ℕ) → IsCandidatePair T a b → IsConflicting T a b
IsCandidatePair-conflict T a b (inl cand) = cand.conflict
IsCandidatePair-conflict T a b (inr cand) = IsConflicting-sym T b a cand.conflict

-- one cause at most
pub IsRefusalOf-unique : (T : List Event) (a b : ℕ) (why other : SliceRefusal) → IsRefusalOf T a b why → IsRefusalOf T a b other → why ≡ other
IsRefusalOf-unique T a b NoSuchEvent NoSuchEvent is also = refl
IsRefusalOf-unique T a b NoSuchEvent NotConflicting is also = absurd (is also.0)
IsRefusalOf-unique T a b NoSuchEvent NotCandidate is also = absurd (is (IsConflicting-there T a b also.0))
IsRefusalOf-unique T a b NoSuchEvent OutOfMemory is also = absurd (is (IsConflicting-there T a b (IsCandidatePair-conflict T a b also)))
IsRefusalOf-unique T a b NotConflicting NoSuchEvent is also = absurd (also is.0)
IsRefusalOf-unique T a b NotConflicting NotConflicting is also = refl
IsRefusalOf-unique T a b NotConflicting NotCandidate is also = absurd (is.1 also.0)
IsRefusalOf-unique T a b NotConflicting OutOfMemory is also = absurd (is.1 (IsCandidatePair-conflict T a b also))
IsRefusalOf-unique T a b NotCandidate NoSuchEvent is also = absurd (also (IsConflicting-there T a b is.0))
IsRefusalOf-unique T a b NotCandidate NotConflicting is also = absurd (also.1 is.0)
IsRefusalOf-unique T a b NotCandidate NotCandidate is also = refl
IsRefusalOf-unique T a b NotCandidate OutOfMemory is also = absurd (is.1 also)
IsRefusalOf-unique T a b OutOfMemory NoSuchEvent is also = absurd (also (IsConflicting-there T a b (IsCandidatePair-conflict T a b is)))
IsRefusalOf-unique T a b OutOfMemory NotConflicting is also = absurd (also.1 (IsCandidatePair-conflict T a b is))
IsRefusalOf-unique T a b OutOfMemory NotCandidate is also = absurd (also.1 is)
IsRefusalOf-unique T a b OutOfMemory OutOfMemory is also = refl
