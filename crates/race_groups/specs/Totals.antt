-- The count of all pairs, class by class. No public clause cites this module. `T` is the events of a trace.
use Rattle.std.specs.Prelude.{◌≡◌, ℕ, ◌+◌, ◌-◌, ◌*◌, ◌<◌, ◌==◌, nat_lt, Bool, false, cond, List, [], All, length, sum_by, slice_get, slice_index, Option, Some, None, Vec}
use Rattle.std.specs.declared.alloc.Global.{Global}
use Rattle.rapid_text.specs.Recording.{Recording}
use Rattle.rapid_text.specs.declared.event.Event.{Event}
use Rattle.event_index.specs.Lookups.{before, events_of}
use Rattle.race_groups.specs.Classes.{adds_to}
use Rattle.race_groups.specs.Counting.{below_sum, class_count}
use Rattle.race_groups.specs.declared.class.Class.{Class}
use Rattle.race_groups.specs.declared.classes.Classes.{Classes}
use Rattle.race_groups.specs.declared.shares.Total.{Total}

-- the entries of class c: a thread and a number each
abbrev pub items_of : Option (Vec (ℕ × ℕ) Global) → List (ℕ × ℕ)
items_of None = []
items_of (Some v) = v.items

abbrev pub entries_at : List (Vec (ℕ × ℕ) Global) → ℕ → List (ℕ × ℕ)
entries_at spread c = items_of (slice_get spread c)

-- the sum of their numbers, each times the weight of its thread
abbrev pub weighed_sum : (ℕ → ℕ) → List (ℕ × ℕ) → ℕ
weighed_sum w entries = sum_by (λ e. e.1 * w e.0) entries

-- from the old entries to the new, the weighed sum grows by one event of thread t
abbrev pub IsOneNoted : ℕ → List (ℕ × ℕ) → List (ℕ × ℕ) → Type 0
IsOneNoted t old new = (w : ℕ → ℕ) → weighed_sum w new ≡ weighed_sum w old + w t

-- the entries of this class grow by one event of thread t
abbrev pub IsClassNoted : ℕ → ℕ → List (Vec (ℕ × ℕ) Global) → List (Vec (ℕ × ℕ) Global) → Type 0
IsClassNoted class t old new =
    (c : ℕ) (w : ℕ → ℕ)
    → weighed_sum w (entries_at new c) ≡ weighed_sum w (entries_at old c) + cond (class == c) (w t) 0

-- the entries have only threads below n
abbrev pub AreThreadsBelow : ℕ → List (ℕ × ℕ) → Type 0
AreThreadsBelow n entries = All (λ e. e.0 < n) entries

-- if the entries had only threads below n, and thread t is below n, they still have only such
abbrev pub StayBelow : ℕ → List (ℕ × ℕ) → List (ℕ × ℕ) → Type 0
StayBelow t old new = (n : ℕ) → t < n → AreThreadsBelow n old → AreThreadsBelow n new

-- the same for the entries of each class
abbrev pub AllStayBelow : ℕ → List (Vec (ℕ × ℕ) Global) → List (Vec (ℕ × ℕ) Global) → Type 0
AllStayBelow t old new = (n c : ℕ) → t < n → AreThreadsBelow n (entries_at old c) → AreThreadsBelow n (entries_at new c)

-- the number at index t is that of thread t's events in the entries
abbrev pub AreThreadCounts : ℕ → List (ℕ × ℕ) → List ℕ → Type 0
AreThreadCounts threads entries weights =
    (t : ℕ) → t < threads → slice_index weights t ≡ weighed_sum (λ u. cond (t == u) 1 0) entries

-- the entries of each class grow by these events of thread t
abbrev pub AreNoted : List ℕ → List ℕ → ℕ → List (Vec (ℕ × ℕ) Global) → List (Vec (ℕ × ℕ) Global) → Type 0
AreNoted classes events t old new =
    (c : ℕ) (w : ℕ → ℕ) → weighed_sum w (entries_at new c) ≡ weighed_sum w (entries_at old c) + class_count classes c events * w t

-- the number of events of class c in all threads
abbrev pub total_count : List Event → ℕ → List ℕ → ℕ → ℕ
total_count T threads classes c = sum_by (λ t. class_count classes c (events_of T t)) (before threads)

-- Each total is the number of events of its class.
pub record AreTotals (T : List Event) (threads : ℕ) (classes : List ℕ) (n : ℕ) (totals : List ℕ) : Type 0 where
  pub len : length totals ≡ n
  pub counted : (c : ℕ) → c < n → slice_index totals c ≡ total_count T threads classes c

-- the same for the classes of a trace
abbrev pub AreClassTotals : Recording → Classes → List ℕ → Type 0
AreClassTotals r c = AreTotals r.events (length r.threads) c.numbers.items (length c.infos.items)

-- The entries of each class have the number of its events in each thread.
pub record AreSpread (T : List Event) (threads : ℕ) (classes : List ℕ) (n : ℕ) (spread : List (Vec (ℕ × ℕ) Global)) : Type 0 where
  pub len : length spread ≡ n
  pub within : (c : ℕ) → All (λ e. e.0 < threads) (entries_at spread c)
  pub weighed : (c : ℕ) (w : ℕ → ℕ) → c < n
      → weighed_sum w (entries_at spread c) ≡ sum_by (λ t. class_count classes c (events_of T t) * w t) (before threads)

-- the same for the classes of a trace
abbrev pub IsClassSpread : Recording → Classes → List (Vec (ℕ × ℕ) Global) → Type 0
IsClassSpread r c = AreSpread r.events (length r.threads) c.numbers.items (length c.infos.items)

-- the number of pairs of different threads that the events of a class have with those of class c
abbrev pub pairs_of_class : Total → ℕ → ℕ
pairs_of_class t c =
    t.times * slice_index t.totals.now c - weighed_sum (slice_index t.weights.now) (entries_at t.spread.now c)

-- Each weight is the number of events of class j in its thread.
pub record AreWeights (T : List Event) (threads : ℕ) (classes : List ℕ) (j : ℕ) (weights : List ℕ) : Type 0 where
  pub len : length weights ≡ threads
  pub each : (t : ℕ) → t < threads → slice_index weights t ≡ class_count classes j (events_of T t)

-- the number of pairs that events of class j have with events of class c of other threads before the ends
abbrev pub two_sum : List Event → ℕ → List ℕ → (ℕ → ℕ → ℕ) → ℕ → ℕ → ℕ
two_sum T threads classes end j c = sum_by (λ u. below_sum T threads classes u end j c (events_of T u)) (before threads)

-- Two classes are visited once, at the greater one, for both.
abbrev pub at_greater : ℕ → ℕ → ℕ → ℕ
at_greater j c n = cond (nat_lt c j) (2 * n) (cond (c == j) n 0)

-- whether the pairs of two classes have the places p and q, and are kept
abbrev pub adds_both : (Class → Class → Bool) → ℕ → ℕ → Option Class → Option Class → Bool
adds_both keeps p q None other = false
adds_both keeps p q (Some j) other = adds_to keeps p q j other

-- what class j adds to the places p and q
abbrev pub total_sum : List Event → (Class → Class → Bool) → List ℕ → List Class → ℕ → (ℕ → ℕ → ℕ) → ℕ → ℕ → ℕ → ℕ
total_sum T keeps classes infos threads end p q j =
    sum_by (λ c. cond (adds_both keeps p q (slice_get infos j) (slice_get infos c)) (at_greater j c (two_sum T threads classes end j c)) 0) (before (length infos))
