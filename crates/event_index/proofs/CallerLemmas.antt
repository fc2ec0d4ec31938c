-- Lemmas for the crates above: what the look-ups tell, from their definitions alone.
use Rattle.std.proofs.Common.{◌≡◌, ℕ, ◌+◌, ◌-◌, ◌<◌, ◌≤◌, ◌⊎◌, true, false, eqb, List, reverse, Option, Some, None, length, refl, sym, ap, ◌∙◌, arith, inl, inr}
use Rattle.std.specs.List.{All, find, slice_get}
use Rattle.std.specs.Option.{option_map}
use Rattle.std.proofs.Math.Bool.{or_comm}
use Rattle.std.proofs.lemmas.Bool.{eqb-true, cases_order}
use Rattle.std.proofs.lemmas.List.Elements.{All-from_get_or, All-filter, All-weaker, filter_passes}
use Rattle.std.proofs.lemmas.List.FromFn.{length-range_with_len, get_or-range_with_len}
use Rattle.std.proofs.lemmas.List.Sums.{length-filter, count_by-le-length}
use Rattle.std.proofs.lemmas.Option.{none-some, same_Some, slice_get_within}
use Rattle.rapid_text.specs.Operations.{is_fork, is_write}
use Rattle.rapid_text.specs.declared.event.Event.{Event}
use Rattle.rapid_text.specs.declared.event.Op.{Op}
use Rattle.rapid_text.specs.declared.event.Op.TheVariants.{Read, Acquire, Fork}
use Rattle.rapid_text.proofs.CallerLemmas.{fork-from_test}
use Rattle.trace_rules.specs.Rules.{IsDisciplined}
use Rattle.event_index.specs.Events.{op_at, thread_at, is_of_thread, is_write_at, is_fork_at}
use Rattle.event_index.specs.Relations.{IsConflicting}
use Rattle.event_index.specs.Lookups.{before, events_of, place_of, place_by, last_writer, last_writer_by, fork_of, or_else, base_of, base_by, section_by, section_of, section_end}
use Rattle.event_index.proofs.StepLemmas.{count_before-le}
-- what an event found in the trace does, and which thread does it
pub use Rattle.event_index.proofs.EventLemmas.{thread_event, op_event, thread_here, op_here, thread_within, is_of_thread-from, one_thread}
pub use Rattle.event_index.proofs.PlaceLemmas.{events_before, length-events_before, events_of-place, place_of-events_of}
-- the first and the last that passes a test, one event further; how a count and a place go on
pub use Rattle.event_index.proofs.ScanLemmas.{before_more, filter_more_before, find_first_is, find_last_is, find_last_none, find_last_yes, find_last_no, none_found, find_none}
-- a look of any list, and the least number of which something holds
pub use Rattle.event_index.proofs.FindLemmas.{find-member, find-passes, find-all_fail, all_fail-find, find-fails, find-same}
pub use Rattle.event_index.proofs.LeastLemmas.{IsLeastOf-same, IsLeastOf-unique, find_cases, find-least}
pub use Rattle.event_index.proofs.StepLemmas.{passes_here, passes_event, take_event, count_more, place_of-count}
-- where the events of each thread begin in a row of all, thread by thread
pub use Rattle.event_index.proofs.RowLemmas.{start_of-more, start_of-within, count_before-all}
-- lists that hold what a function gives for each number
pub use Rattle.event_index.proofs.TableLemmas.{get_or-IsTable, IsTable-from_get_or, IsTable-nil, IsTable-replicate, IsTable-push, IsTable-set, IsTable-like}
-- how often a thread holds a lock, one event further
pub use Rattle.event_index.proofs.HoldLemmas.{takes, frees, takes_is, frees_is, takes_not_thread, frees_not_thread, hold_same, hold_taken, hold_freed}
-- while a section is open
pub use Rattle.event_index.proofs.SectionLemmas.{held_above}
pub use Rattle.event_index.proofs.RelationLaws.{Decides-is_clash, Decides-is_apart, Decides-is_conflict, Decides-is_independent, IsIndependent-sym}

-- the last write of x before e
pub record IsLastWrite (T : List Event) (x e w : ℕ) : Type 0 where
  pub earlier : w < e
  pub writes : is_write_at T x w ≡ true
  pub no_later : (k : ℕ) → w < k → k < e → is_write_at T x k ≡ false

last_writer_by-some : (T : List Event) (e w : ℕ) (o : Option Op) → last_writer_by T e o ≡ Some w → (x : ℕ) × (o ≡ Some (Read x)) × IsLastWrite T x e w
last_writer_by-some T e w (Some (Read x)) h =
    let found = find_last_is (is_write_at T x) e w h in
    (x, refl, record { earlier = found.0; writes = found.1; no_later = found.2 })
last_writer_by-some T e w o h = absurd (none-some w h)

-- a last writer is the last write of the variable before its read
pub last_writer-some : (T : List Event) (e w : ℕ) → last_writer T e ≡ Some w → (x : ℕ) × (op_at T e ≡ Some (Read x)) × IsLastWrite T x e w
last_writer-some T e w h = last_writer_by-some T e w (op_at T e) h

pub last_writer-earlier : (T : List Event) (e w : ℕ) → last_writer T e ≡ Some w → w < e
last_writer-earlier T e w h = (last_writer-some T e w h).2.earlier

-- the fork of a thread is an event that forks it, and none before it does
pub fork_of-some : (T : List Event) (u f : ℕ) → fork_of T u ≡ Some f → (f < length T) × (is_fork_at T u f ≡ true) × ((k : ℕ) → k < f → is_fork_at T u k ≡ false)
fork_of-some T u f h =
    let found = find_first_is (is_fork_at T u) 0 (length T) f h in
    (omega (arith, found.1), found.2, λ k lt. found.3 k (omega arith) lt)

or_else-some : (o p : Option ℕ) (b : ℕ) → or_else o p ≡ Some b → (o ≡ Some b) ⊎ ((o ≡ None) × (p ≡ Some b))
or_else-some None p b h = inr (refl, h)
or_else-some (Some e) p b h = inl h

-- a base is the event of the thread before it, or else the fork of the thread
pub base_by-some : (T : List Event) (e b : ℕ) (o : Option Event) → base_by T e o ≡ Some b
    → (v : Event) × (o ≡ Some v) × ((find (is_of_thread T v.thread) (reverse (before e)) ≡ Some b) ⊎ ((find (is_of_thread T v.thread) (reverse (before e)) ≡ None) × (fork_of T v.thread ≡ Some b)))
base_by-some T e b None h = absurd (none-some b h)
base_by-some T e b (Some v) h = (v, refl, or_else-some (find (is_of_thread T v.thread) (reverse (before e))) (fork_of T v.thread) b h)

-- an event that forks the thread, releases the lock, is one of the thread
fork_found : (T : List Event) (u e : ℕ) → is_fork_at T u e ≡ true → (v : Event) × (slice_get T e ≡ Some v) × (v.op ≡ Fork u)
fork_found T u e h =
    let found = passes_event (λ v. is_fork u v.op) T e h in
    (found.0, found.1, fork-from_test u found.0.op found.2)

pub is_fork_at-op : (T : List Event) (u e : ℕ) → is_fork_at T u e ≡ true → op_at T e ≡ Some (Fork u)
is_fork_at-op T u e h =
    let found = fork_found T u e h in
    ap (option_map (λ (v : Event). v.op)) found.1 ∙ ap Some found.2

pub is_of_thread-thread : (T : List Event) (t e : ℕ) → is_of_thread T t e ≡ true → thread_at T e ≡ Some t
is_of_thread-thread T t e h =
    let found = passes_event (λ v. eqb v.thread t) T e h in
    ap (option_map (λ (v : Event). v.thread)) found.1 ∙ ap Some (eqb-true found.0.thread t found.2)

-- a base is earlier, in a trace that keeps the rules
pub base_of-earlier : (T : List Event) → IsDisciplined T → (e b : ℕ) → base_of T e ≡ Some b → b < e
base_of-earlier T rules e b h =
    let (v, at, either) = base_by-some T e b (slice_get T e) h in
    elim either [
      | inl before_it ↦ (find_last_is (is_of_thread T v.thread) e b before_it).0
      | inr first ↦
          let (w, there, forks) = fork_found T v.thread b (fork_of-some T v.thread b first.1).1 in
          elim (cases_order e b) [
            | inl same ↦
                let one : v ≡ w = same_Some v w (sym at ∙ ap (slice_get T) same ∙ there) in
                absurd (rules.no_own_fork e v at (ap (λ (u : Event). u.op) one ∙ forks))
            | inr apart ↦ elim apart [ inl late ↦ absurd (rules.no_event_before_fork e b v.thread v w late at there forks refl) | inr early ↦ early ]
          ]
    ]

section_by-some : (T : List Event) (e t j : ℕ) (op : Op) → section_by T (length T) e t op ≡ Some j → (e < j) × (j < length T)
section_by-some T e t j (Acquire l) h =
    let found = find_first_is _ (e + 1) (length T - (e + 1)) j h in
    (omega (arith, found.0), omega (arith, found.0, found.1))
section_by-some T e t j op h = absurd (none-some j h)

section_of-some : (T : List Event) (e j : ℕ) (o : Option Event) → section_of T (length T) e o ≡ Some j → (e < j) × (j < length T)
section_of-some T e j None h = absurd (none-some j h)
section_of-some T e j (Some v) h = section_by-some T e v.thread j v.op h

-- a section ends at a later event
pub section_end-later : (T : List Event) (e j : ℕ) → section_end T e ≡ Some j → (e < j) × (j < length T)
section_end-later T e j h = section_of-some T e j (slice_get T e) h

place_by-le : (T : List Event) (e : ℕ) (o : Option Event) → e ≤ length T → place_by T e o ≤ e
place_by-le T e None within = omega arith
place_by-le T e (Some v) within = count_before-le T e v.thread within

-- as many events of its thread as stand before an event, at most
pub place_of-le : (T : List Event) (e : ℕ) → e ≤ length T → place_of T e ≤ e
place_of-le T e within = place_by-le T e (slice_get T e) within

-- the events of a thread are events of the trace
pub events_of-within : (T : List Event) (t : ℕ) → All (λ e. e < length T) (events_of T t)
events_of-within T t =
    All-filter (is_of_thread T t) (λ e. e < length T) (before (length T)) (All-from_get_or (λ e. e < length T) (before (length T)) 0 (λ i lt.
    let size = length-range_with_len 0 (length T) in
    let here = get_or-range_with_len 0 (length T) i 0 (omega (arith, size)) in
    omega (arith, here, size)))

-- and of the thread
pub events_of-thread : (T : List Event) (t : ℕ) → All (λ e. thread_at T e ≡ Some t) (events_of T t)
events_of-thread T t =
    All-weaker (λ e. is_of_thread T t e ≡ true) (λ e. thread_at T e ≡ Some t) (λ e h. is_of_thread-thread T t e h) (events_of T t)
    (filter_passes (is_of_thread T t) (before (length T)))

-- there are no more of them than events
pub events_of-length : (T : List Event) (t : ℕ) → length (events_of T t) ≤ length T
events_of-length T t =
    omega (
      arith,
      length-filter (is_of_thread T t) (before (length T)),
      count_by-le-length (is_of_thread T t) (before (length T)),
      length-range_with_len 0 (length T),
    )

-- the fork of a thread forks it
pub fork_of-op : (T : List Event) (u f : ℕ) → fork_of T u ≡ Some f → op_at T f ≡ Some (Fork u)
fork_of-op T u f is = is_fork_at-op T u f (fork_of-some T u f is).1

-- a base is an event of the trace, in a trace that keeps the rules
pub base_of-within : (T : List Event) → IsDisciplined T → (e b : ℕ) → base_of T e ≡ Some b → b < length T
base_of-within T rules e b is =
    let found = base_by-some T e b (slice_get T e) is in
    omega (arith, base_of-earlier T rules e b is, slice_get_within T e found.0 found.1)

-- a conflict goes both ways
pub IsConflicting-sym : (T : List Event) (a b : ℕ) → IsConflicting T a b → IsConflicting T b a
IsConflicting-sym T a b is = record {
  v = is.w;
  w = is.v;
  first = is.second;
  second = is.first;
  clash = record {
    threads = λ one. is.clash.threads (sym one);
    variable = is.clash.variable;
    first = is.clash.second;
    second = is.clash.first;
    writes = or_comm (is_write is.clash.variable is.w.op) (is_write is.clash.variable is.v.op) ∙ is.clash.writes;
  };
}
