-- The row of all events, thread by thread: where the threads begin in it, and what one event more does to it.
use Rattle.std.proofs.Common.{◌≡◌, ℕ, zero, suc, ◌+◌, ◌-◌, ◌<◌, ◌≤◌, ◌⊎◌, cond, eqb, ltb, List, [], ◌∷◌, ◌++◌, Some, length, set, take, drop, count_by, refl, sym, ap, ap₂, ◌∙◌, arith, eq-eqb, inl, inr, length-set, length-drop, add-one, take_all, le_refl, append-nil}
use Rattle.std.specs.List.{filter, slice_get, slice_index}
use Rattle.std.proofs.lemmas.Bool.{ne_eqb, cases_eq, cases_order}
use Rattle.std.proofs.lemmas.Bool.Decides.{nat_tests}
use Rattle.std.proofs.lemmas.List.{drop-set-lt, drop-set-add, take-set-le, take_more_set}
use Rattle.std.proofs.lemmas.List.Sums.{sum_by-cons, sum_by-take-le, count_by-le-length}
use Rattle.std.proofs.lemmas.Option.{slice_get_within}
use Rattle.rapid_text.specs.declared.event.Event.{Event}
use Rattle.event_index.specs.Events.{is_of_thread}
use Rattle.event_index.specs.Lookups.{before, events_of, place_of}
use Rattle.event_index.specs.Layout.{IsTable, IsGrouped, IsFilled, count_before}
use Rattle.event_index.specs.Lookups.{start_of}
use Rattle.event_index.proofs.ScanLemmas.{filter_more_before}
use Rattle.event_index.proofs.StepLemmas.{passes_here, count_more, place_of-count}
use Rattle.event_index.proofs.TableLemmas.{get_or-IsTable}

-- a number is below t + 1 where it is below t or t itself
below_more : (x t : ℕ) → cond (ltb x (t + 1)) 1 0 ≡ cond (ltb x t) 1 0 + cond (eqb x t) 1 0
below_more x t = grind (arith, nat_tests)

-- the next thread begins where the thread ends
pub start_of-more : (T : List Event) (t : ℕ) → start_of T (t + 1) ≡ start_of T t + count_by (λ v. eqb v.thread t) T
start_of-more [] t = refl
start_of-more (v ∷ T) t =
    let one = below_more v.thread t in
    let rest = start_of-more T t in
    let low = sum_by-cons (λ (w : Event). cond (ltb w.thread (t + 1)) 1 0) v T in
    let lower = sum_by-cons (λ (w : Event). cond (ltb w.thread t) 1 0) v T in
    let here = sum_by-cons (λ (w : Event). cond (eqb w.thread t) 1 0) v T in
    omega (arith, one, rest, low, lower, here)

-- threads begin in their order
pub start_of-le : (T : List Event) (t u : ℕ) → t ≤ u → start_of T t ≤ start_of T u
start_of-le T t zero h = let none : t ≡ 0 = omega arith in rw none (le_refl (start_of T 0))
start_of-le T t (suc u) h =
    elim (cases_eq t (suc u)) [
      | inl same ↦ rw same (le_refl (start_of T (suc u)))
      | inr other ↦ rw (← add-one u) (omega (arith, start_of-le T t u (omega arith), start_of-more T u))
    ]

pub start_of-within : (T : List Event) (t : ℕ) → start_of T t ≤ length T
start_of-within T t = count_by-le-length (λ (v : Event). ltb v.thread t) T

below_zero : (x : ℕ) → ◌≡◌ {A = ℕ} (cond (ltb x 0) 1 0) 0
below_zero x = grind (arith, nat_tests)

-- no event is of a thread below 0
pub start_of-zero : (T : List Event) → start_of T 0 ≡ 0
start_of-zero [] = refl
start_of-zero (v ∷ T) =
    let one = below_zero v.thread in
    let low = sum_by-cons (λ (w : Event). cond (ltb w.thread 0) 1 0) v T in
    omega (arith, one, low, start_of-zero T)

-- where a thread has as many events as all
pub count_before-all : (T : List Event) (t : ℕ) → count_before T (length T) t ≡ count_by (λ v. eqb v.thread t) T
count_before-all T t = ap (count_by (λ (v : Event). eqb v.thread t)) (take_all (length T) T (le_refl (length T)))

-- what comes before stays within the part of its thread
pub count_before-within : (T : List Event) (e t : ℕ) → start_of T t + count_before T e t ≤ start_of T (t + 1)
count_before-within T e t = omega (arith, start_of-more T t, sum_by-take-le (λ (v : Event). cond (eqb v.thread t) 1 0) T e)

-- a write behind a part of a list
part_before : (xs : List ℕ) (s m p x : ℕ) → s + m ≤ p → take m (drop s (set xs p x)) ≡ take m (drop s xs)
part_before xs s m p x h =
    let k = p - s in
    let at : p ≡ s + k = omega arith in
    ap (λ (q : ℕ). take m (drop s (set xs q x))) at ∙ ap (take m) (drop-set-add s xs k x) ∙ take-set-le m (drop s xs) k x (omega arith)

-- a write before a part of a list
part_after : (xs : List ℕ) (s m p x : ℕ) → p < s → take m (drop s (set xs p x)) ≡ take m (drop s xs)
part_after xs s m p x h = ap (take m) (drop-set-lt s xs p x h)

-- a write right behind a part of a list lengthens it
part_more : (xs : List ℕ) (s m x : ℕ) → s + m < length xs → take (m + 1) (drop s (set xs (s + m) x)) ≡ take m (drop s xs) ++ x ∷ []
part_more xs s m x h =
    ap (take (m + 1)) (drop-set-add s xs m x) ∙ take_more_set (drop s xs) m x (omega (arith, length-drop s xs))

-- the place where an event belongs is in the part of its thread
place_ends : (T : List Event) (e : ℕ) (v : Event) → slice_get T e ≡ Some v → start_of T v.thread + count_before T e v.thread < start_of T (v.thread + 1)
place_ends T e v at =
    let more = count_more (λ (w : Event). eqb w.thread v.thread) T e v at in
    let here : ◌≡◌ {A = ℕ} (cond (eqb v.thread v.thread) 1 0) 1 = ap (λ b. cond b 1 0) (eq-eqb v.thread v.thread refl) in
    let bound = count_before-within T (e + 1) v.thread in
    omega (arith, more, here, bound)

-- and so in the row
pub within_row : (T : List Event) (e : ℕ) (v : Event) → slice_get T e ≡ Some v → start_of T v.thread + count_before T e v.thread < length T
within_row T e v at = omega (arith, place_ends T e v at, start_of-within T (v.thread + 1))

-- the part of thread t with one event more
part_of : (T : List Event) (threads e : ℕ) (v : Event) (row : List ℕ) (t : ℕ) → IsFilled T threads e row
    → start_of T v.thread + count_before T e v.thread < start_of T (v.thread + 1) → (v.thread ≡ t) ⊎ ((v.thread < t) ⊎ (t < v.thread))
    → count_before T (e + 1) t ≡ count_before T e t + cond (eqb v.thread t) 1 0
    → filter (is_of_thread T t) (before (e + 1)) ≡ filter (is_of_thread T t) (before e) ++ cond (eqb v.thread t) (e ∷ []) []
    → take (count_before T e t) (drop (start_of T t) row) ≡ filter (is_of_thread T t) (before e)
    → take (count_before T (e + 1) t) (drop (start_of T t) (set row (start_of T v.thread + count_before T e v.thread) e))
    ≡ filter (is_of_thread T t) (before (e + 1))
part_of T threads e v row t filled ends which more passes part =
    elim which [
      | inl same ↦
          let test = eq-eqb v.thread t same in
          let count : count_before T (e + 1) t ≡ count_before T e t + 1 = more ∙ ap (λ b. count_before T e t + cond b 1 0) test in
          let all : filter (is_of_thread T t) (before (e + 1)) ≡ filter (is_of_thread T t) (before e) ++ e ∷ [] = passes ∙ ap (λ b. filter (is_of_thread T t) (before e) ++ cond b (e ∷ []) []) test in
          let here : start_of T v.thread + count_before T e v.thread ≡ start_of T t + count_before T e t = ap (λ (u : ℕ). start_of T u + count_before T e u) same in
          ap (λ (n : ℕ). take n (drop (start_of T t) (set row (start_of T v.thread + count_before T e v.thread) e))) count
          ∙ ap (λ (p : ℕ). take (count_before T e t + 1) (drop (start_of T t) (set row p e))) here
          ∙ part_more row (start_of T t) (count_before T e t) e (omega (arith, filled.len, here, start_of-within T (v.thread + 1)))
          ∙ ap (λ (xs : List ℕ). xs ++ e ∷ []) part ∙ sym all
      | inr other ↦
          let ne : v.thread ≡ t → ⊥ = λ same. elim other [ inl lt ↦ absurd (omega arith) | inr lt ↦ absurd (omega arith) ] in
          let test = ne_eqb v.thread t ne in
          let count : count_before T (e + 1) t ≡ count_before T e t = more ∙ ap (λ b. count_before T e t + cond b 1 0) test ∙ omega arith in
          let all : filter (is_of_thread T t) (before (e + 1)) ≡ filter (is_of_thread T t) (before e) =
          passes ∙ ap (λ b. filter (is_of_thread T t) (before e) ++ cond b (e ∷ []) []) test ∙ append-nil (filter (is_of_thread T t) (before e)) in
          let stays : take (count_before T e t) (drop (start_of T t) (set row (start_of T v.thread + count_before T e v.thread) e)) ≡ take (count_before T e t) (drop (start_of T t) row) =
          elim other [
            | inl lt ↦
                let order = start_of-le T (v.thread + 1) t (omega arith) in
                part_after row (start_of T t) (count_before T e t) (start_of T v.thread + count_before T e v.thread) e (omega arith)
            | inr lt ↦
                let bound = count_before-within T e t in
                let order = start_of-le T (t + 1) v.thread (omega arith) in
                part_before row (start_of T t) (count_before T e t) (start_of T v.thread + count_before T e v.thread) e (omega arith)
          ] in
          ap (λ (n : ℕ). take n (drop (start_of T t) (set row (start_of T v.thread + count_before T e v.thread) e))) count ∙ stays ∙ part ∙ sym all
    ]

-- one event more in the row
pub IsFilled-more : (T : List Event) (threads e : ℕ) (v : Event) (row : List ℕ) → slice_get T e ≡ Some v → IsFilled T threads e row
    → IsFilled T threads (e + 1) (set row (start_of T v.thread + count_before T e v.thread) e)
IsFilled-more T threads e v row at filled =
    let p = start_of T v.thread + count_before T e v.thread in
    let ends = place_ends T e v at in
    record {
      len = length-set row p e ∙ filled.len;
      part = λ t within.
          let more : count_before T (e + 1) t ≡ count_before T e t + cond (eqb v.thread t) 1 0 = count_more (λ w. eqb w.thread t) T e v at in
          let passes : filter (is_of_thread T t) (before (e + 1)) ≡ filter (is_of_thread T t) (before e) ++ cond (eqb v.thread t) (e ∷ []) [] =
          filter_more_before (is_of_thread T t) e
          ∙ ap (λ b. filter (is_of_thread T t) (before e) ++ cond b (e ∷ []) []) (passes_here (λ w. eqb w.thread t) T e v at) in
          part_of T threads e v row t filled ends (cases_order v.thread t) more passes (filled.part t within);
    }

-- the row after the last event
pub IsFilled-all : (T : List Event) (threads : ℕ) (row starts : List ℕ) → IsTable (start_of T) (threads + 1) starts → IsFilled T threads (length T) row
    → IsGrouped (events_of T) threads row starts
IsFilled-all T threads row starts table filled =
    record {
      len = table.len;
      bounds = λ t within.
          let start = get_or-IsTable (start_of T) (threads + 1) starts table t 0 (omega arith) in
          let end = get_or-IsTable (start_of T) (threads + 1) starts table (t + 1) 0 (omega arith) in
          (omega (arith, start, end, start_of-more T t), omega (arith, end, filled.len, start_of-within T (t + 1)));
      part = λ t within.
          let start = get_or-IsTable (start_of T) (threads + 1) starts table t 0 (omega arith) in
          let end = get_or-IsTable (start_of T) (threads + 1) starts table (t + 1) 0 (omega arith) in
          let size : slice_index starts (t + 1) - slice_index starts t ≡ count_before T (length T) t = omega (arith, start, end, start_of-more T t, count_before-all T t) in
          ap (λ (n : ℕ). take n (drop (slice_index starts t) row)) size ∙ ap (λ (s : ℕ). take (count_before T (length T) t) (drop s row)) start
          ∙ filled.part t within;
    }

-- where the event belongs, as the tables tell it
pub spot : (T : List Event) (threads e : ℕ) (v : Event) (starts places : List ℕ) → slice_get T e ≡ Some v → v.thread < threads
    → IsTable (start_of T) (threads + 1) starts → IsTable (place_of T) (length T) places
    → slice_index starts v.thread + slice_index places e ≡ start_of T v.thread + count_before T e v.thread
spot T threads e v starts places at named start place =
    ap₂ ◌+◌ (get_or-IsTable (start_of T) (threads + 1) starts start v.thread 0 (omega arith))
    (get_or-IsTable (place_of T) (length T) places place e 0 (slice_get_within T e v at) ∙ place_of-count T e v at)

-- where the next thread begins, as the counts tell it
pub next_start : (T : List Event) (threads t : ℕ) (counts : List ℕ) → IsTable (count_before T (length T)) threads counts → t < threads
    → start_of T (t + 1) ≡ start_of T t + slice_index counts t
next_start T threads t counts table within =
    start_of-more T t
    ∙ ap (λ (n : ℕ). start_of T t + n) (sym (get_or-IsTable (count_before T (length T)) threads counts table t 0 within ∙ count_before-all T t))
