-- What each table of the passes becomes with one event more. `T` is the events, `i` the event, `v` what it is.
use Rattle.std.proofs.Common.{◌≡◌, ◌≢◌, ℕ, ◌+◌, ◌≤◌, ◌⊎◌, Bool, true, false, cond, eqb, List, [], ◌∷◌, ◌++◌, Option, Some, None, length, set, take, count_by, refl, sym, ap, ◌∙◌, arith, eq-eqb, inl, inr, length-take-le, true≢false}
use Rattle.std.specs.List.{slice_get}
use Rattle.std.specs.Option.{option_or, option_map}
use Rattle.std.proofs.lemmas.Bool.{ne_eqb, cond-true, cond-false}
use Rattle.std.proofs.lemmas.List.{take_more}
use Rattle.std.proofs.lemmas.List.Sums.{sum_by_push, count_by-le-length}
use Rattle.std.proofs.lemmas.Option.{slice_get_within, get_or_from_slice_get}
use Rattle.rapid_text.specs.Operations.{is_write, is_fork}
use Rattle.rapid_text.specs.declared.event.Event.{Event}
use Rattle.rapid_text.specs.declared.event.Op.{Op}
use Rattle.rapid_text.specs.declared.event.Op.TheVariants.{Write, Acquire, Release, Fork, Join}
use Rattle.event_index.specs.Events.{passes_by, passes_at, is_of_thread, is_write_at, is_fork_at}
use Rattle.event_index.specs.Lookups.{before, last_write, last_writer, last_writer_by, place_of, place_by}
use Rattle.event_index.specs.Layout.{IsTable, fork_before, count_before, last_before}
use Rattle.event_index.proofs.ScanLemmas.{find_last_yes, find_last_no, find_first_more}
use Rattle.event_index.proofs.TableLemmas.{IsTable-set, IsTable-like}

option_or-None : (o : Option ℕ) → option_or o None ≡ o
option_or-None None = refl
option_or-None (Some e) = refl

-- what forks no such thread fails the test
no_fork : (u : ℕ) (op : Op) → op ≢ Fork u → is_fork u op ≡ false
no_fork u (Fork w) h = ne_eqb w u (λ e. h (ap Fork e))
no_fork u op h = refl

-- a test at an event that is there
pub passes_here : (test : Event → Bool) (T : List Event) (i : ℕ) (v : Event) → slice_get T i ≡ Some v → passes_at test T i ≡ test v
passes_here test T i v at = ap (passes_by test) at

passing : (test : Event → Bool) (o : Option Event) → passes_by test o ≡ true → (v : Event) × (o ≡ Some v) × (test v ≡ true)
passing test None h = absurd (true≢false (sym h))
passing test (Some v) h = (v, refl, h)

-- an event that passes a test is there, and what is there passes it
pub passes_event : (test : Event → Bool) (T : List Event) (i : ℕ) → passes_at test T i ≡ true → (v : Event) × (slice_get T i ≡ Some v) × (test v ≡ true)
passes_event test T i h = passing test (slice_get T i) h

-- the events up to it
pub take_event : (T : List Event) (i : ℕ) (v : Event) → slice_get T i ≡ Some v → take (i + 1) T ≡ take i T ++ v ∷ []
take_event T i v at =
    take_more T i v (slice_get_within T i v at) ∙ ap (λ (w : Event). take i T ++ w ∷ []) (get_or_from_slice_get T i v v at)

-- a count with one event more
pub count_more : (test : Event → Bool) (T : List Event) (i : ℕ) (v : Event) → slice_get T i ≡ Some v → count_by test (take (i + 1) T) ≡ count_by test (take i T) + cond (test v) 1 0
count_more test T i v at = ap (count_by test) (take_event T i v at) ∙ sum_by_push (λ w. cond (test w) 1 0) (take i T) v

pub count_before-le : (T : List Event) (i t : ℕ) → i ≤ length T → count_before T i t ≤ i
count_before-le T i t within =
    let bound = count_by-le-length (λ (v : Event). eqb v.thread t) (take i T) in
    omega (arith, bound, length-take-le i T within)

-- the last event of each thread
pub last_before-more : (T : List Event) (i n : ℕ) (v : Event) (xs : List (Option ℕ)) → slice_get T i ≡ Some v → IsTable (last_before T i) n xs
    → IsTable (last_before T (i + 1)) n (set xs v.thread (Some i))
last_before-more T i n v xs at table =
    IsTable-set (last_before T i) (last_before T (i + 1)) n xs v.thread (Some i) table
    (sym (find_last_yes (is_of_thread T v.thread) i (passes_here (λ w. eqb w.thread v.thread) T i v at ∙ eq-eqb v.thread v.thread refl)))
    (λ t within other. sym (find_last_no (is_of_thread T t) i (passes_here (λ w. eqb w.thread t) T i v at ∙ ne_eqb v.thread t (λ e. other (sym e)))))

-- how many events each thread has
pub count_before-more : (T : List Event) (i n : ℕ) (v : Event) (xs : List ℕ) → slice_get T i ≡ Some v → IsTable (count_before T i) n xs
    → IsTable (count_before T (i + 1)) n (set xs v.thread (count_before T i v.thread + 1))
count_before-more T i n v xs at table =
    IsTable-set (count_before T i) (count_before T (i + 1)) n xs v.thread (count_before T i v.thread + 1) table (sym
    (count_more (λ w. eqb w.thread v.thread) T i v at
    ∙ ap (λ b. count_before T i v.thread + cond b 1 0) (eq-eqb v.thread v.thread refl))) (λ t within other.
    let fails : eqb v.thread t ≡ false = ne_eqb v.thread t (λ e. other (sym e)) in
    let more : count_before T (i + 1) t ≡ count_before T i t + cond (eqb v.thread t) 1 0 = count_more (λ w. eqb w.thread t) T i v at in
    sym (more ∙ ap (λ b. count_before T i t + cond b 1 0) fails ∙ omega arith))

-- the place of an event, by the count of its thread
pub place_of-count : (T : List Event) (i : ℕ) (v : Event) → slice_get T i ≡ Some v → place_of T i ≡ count_before T i v.thread
place_of-count T i v at = ap (place_by T i) at

-- the last write of each variable, where the event writes one
pub last_write-more : (T : List Event) (i n y : ℕ) (v : Event) (xs : List (Option ℕ)) → slice_get T i ≡ Some v → v.op ≡ Write y
    → IsTable (λ x. last_write T x (before i)) n xs → IsTable (λ x. last_write T x (before (i + 1))) n (set xs y (Some i))
last_write-more T i n y v xs at op table =
    let test : (x : ℕ) → is_write_at T x i ≡ eqb y x = λ x. passes_here (λ w. is_write x w.op) T i v at ∙ ap (is_write x) op in
    IsTable-set (λ x. last_write T x (before i)) (λ x. last_write T x (before (i + 1))) n xs y (Some i) table
    (sym (find_last_yes (is_write_at T y) i (test y ∙ eq-eqb y y refl)))
    (λ x within other. sym (find_last_no (is_write_at T x) i (test x ∙ ne_eqb y x (λ e. other (sym e)))))

-- the last write of each variable, where the event writes none
pub last_write-same : (T : List Event) (i n : ℕ) (v : Event) (xs : List (Option ℕ)) → slice_get T i ≡ Some v → ((x : ℕ) → is_write x v.op ≡ false)
    → IsTable (λ x. last_write T x (before i)) n xs → IsTable (λ x. last_write T x (before (i + 1))) n xs
last_write-same T i n v xs at none table =
    IsTable-like (λ x. last_write T x (before i)) (λ x. last_write T x (before (i + 1))) n xs table
    (λ x within. sym (find_last_no (is_write_at T x) i (passes_here (λ w. is_write x w.op) T i v at ∙ none x)))

-- the first fork of each thread, where the event forks one
pub fork_before-more : (T : List Event) (i n u : ℕ) (v : Event) (xs : List (Option ℕ)) → slice_get T i ≡ Some v → v.op ≡ Fork u
    → IsTable (fork_before T i) n xs → IsTable (fork_before T (i + 1)) n (set xs u (option_or (fork_before T i u) (Some i)))
fork_before-more T i n u v xs at op table =
    let test : (t : ℕ) → is_fork_at T t i ≡ eqb u t = λ t. passes_here (λ w. is_fork t w.op) T i v at ∙ ap (is_fork t) op in
    let more : (t : ℕ) → fork_before T (i + 1) t ≡ option_or (fork_before T i t) (cond (is_fork_at T t i) (Some i) None) = λ t. find_first_more (is_fork_at T t) i in
    IsTable-set (fork_before T i) (fork_before T (i + 1)) n xs u (option_or (fork_before T i u) (Some i)) table
    (sym (more u ∙ ap (option_or (fork_before T i u)) (cond-true _ (Some i) None (test u ∙ eq-eqb u u refl)))) (λ t within other. sym (more t
    ∙ ap (option_or (fork_before T i t)) (cond-false _ (Some i) None (test t ∙ ne_eqb u t (λ e. other (sym e)))) ∙ option_or-None (fork_before T i t)))

-- the first fork of each thread, where the event forks none
pub fork_before-same : (T : List Event) (i n : ℕ) (v : Event) (xs : List (Option ℕ)) → slice_get T i ≡ Some v → ((u : ℕ) → v.op ≢ Fork u)
    → IsTable (fork_before T i) n xs → IsTable (fork_before T (i + 1)) n xs
fork_before-same T i n v xs at none table =
    IsTable-like (fork_before T i) (fork_before T (i + 1)) n xs table (λ u within. sym (find_first_more (is_fork_at T u) i
    ∙ ap (option_or (fork_before T i u)) (cond-false _ (Some i) None (passes_here (λ w. is_fork u w.op) T i v at ∙ no_fork u v.op (none u)))
    ∙ option_or-None (fork_before T i u)))

-- neither a read nor a write
abbrev pub IsNoAccess : Op → Type 0
IsNoAccess op = ((l : ℕ) × (op ≡ Acquire l)) ⊎ (((l : ℕ) × (op ≡ Release l)) ⊎ (((u : ℕ) × (op ≡ Fork u)) ⊎ ((u : ℕ) × (op ≡ Join u))))

no_write : (op : Op) → IsNoAccess op → (x : ℕ) → is_write x op ≡ false
no_write op (inl p) x = ap (is_write x) p.1
no_write op (inr (inl p)) x = ap (is_write x) p.1
no_write op (inr (inr (inl p))) x = ap (is_write x) p.1
no_write op (inr (inr (inr p))) x = ap (is_write x) p.1

no_read : (T : List Event) (i : ℕ) (op : Op) → IsNoAccess op → last_writer_by T i (Some op) ≡ None
no_read T i op (inl p) = ap (λ (o : Op). last_writer_by T i (Some o)) p.1
no_read T i op (inr (inl p)) = ap (λ (o : Op). last_writer_by T i (Some o)) p.1
no_read T i op (inr (inr (inl p))) = ap (λ (o : Op). last_writer_by T i (Some o)) p.1
no_read T i op (inr (inr (inr p))) = ap (λ (o : Op). last_writer_by T i (Some o)) p.1

-- an event that accesses no variable sees no write, and changes no last write
pub no_access : (T : List Event) (i n : ℕ) (v : Event) (xs : List (Option ℕ)) → slice_get T i ≡ Some v → IsNoAccess v.op
    → IsTable (λ x. last_write T x (before i)) n xs → (None ≡ last_writer T i) × IsTable (λ x. last_write T x (before (i + 1))) n xs
no_access T i n v xs at none table = (
  sym (ap (λ o. last_writer_by T i (option_map (λ (w : Event). w.op) o)) at ∙ no_read T i v.op none),
  last_write-same T i n v xs at (no_write v.op none) table,
)
