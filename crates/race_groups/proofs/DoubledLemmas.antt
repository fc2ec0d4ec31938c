-- Totals without a cut: over all events of other threads, before an event and after it, each pair is met twice.
use Rattle.std.proofs.Common.{◌≡◌, ℕ, zero, suc, ◌+◌, ◌*◌, ◌<◌, ◌==◌, nat_lt, Bool, true, false, ◌&&◌, ◌||◌, cond, List, [], ◌∷◌, length, get_or, sum_by, slice_index, Option, Some, None, refl, sym, ap, ◌∙◌, arith, le_refl}
use Rattle.std.proofs.Math.Bool.{and_comm, or_comm}
use Rattle.std.specs.List.{slice_get}
use Rattle.std.proofs.lemmas.Bool.{lt-ltb, false_from_ne_true}
use Rattle.std.proofs.lemmas.Option.{slice_get-get_or, same_Some}
use Rattle.std.proofs.lemmas.List.Sums.{sum_by-cons}
use Rattle.rapid_text.specs.declared.event.Event.{Event}
use Rattle.rapid_text.specs.Recording.{Recording, IsWellFormed}
use Rattle.event_index.specs.Events.{passes_by}
use Rattle.event_index.specs.Lookups.{before, events_of, place_of}
use Rattle.event_index.specs.Relations.{is_conflict, IsConflicting}
use Rattle.event_index.proofs.CallerLemmas.{thread_here, length-events_before, Decides-is_conflict, IsConflicting-sym}
use Rattle.race_groups.specs.Groups.{count_of, is_between}
use Rattle.race_groups.specs.Cuts.{is_under, is_cut_off}
use Rattle.race_groups.specs.Classes.{AreClasses, adds_to, keeps_by, is_kept_pair}
use Rattle.race_groups.specs.Counting.{later_count, whole_ends}
use Rattle.race_groups.specs.declared.class.Class.{Class}
use Rattle.race_groups.proofs.EarlierLemmas.{counted_is}
use Rattle.race_groups.proofs.PairLemmas.{class_of, term, count_of_class, count_of-pairs, later_sums}
use Rattle.race_groups.proofs.SumLemmas.{sum_by_below, sum_by_below_suc, sum_by-plus, sum_by_each}
use Rattle.race_groups.proofs.ThreadLemmas.{some_event, thread_number}
use Rattle.race_groups.proofs.WalkLemmas.{some_class}

-- What is asked of two events in either order is, over all, twice what is asked of the earlier and the later.
pub doubled : (f : ℕ → ℕ → ℕ) (n : ℕ) → ((a b : ℕ) → f a b ≡ f b a) → ((b : ℕ) → f b b ≡ 0)
    → sum_by (λ b. sum_by (λ a. f a b) (before n)) (before n) ≡ 2 * sum_by (λ b. sum_by (λ a. f a b) (before b)) (before n)
doubled f zero same none = refl
doubled f (suc n) same none =
    let row : ℕ → ℕ = λ b. sum_by (λ a. f a b) (before n) in
    let wide : sum_by (λ b. sum_by (λ a. f a b) (before (suc n))) (before n) ≡ sum_by row (before n) + sum_by (λ b. f n b) (before n) =
    sum_by_each (λ b. sum_by (λ a. f a b) (before (suc n))) (λ b. row b + f n b) (before n) (λ b. sum_by_below_suc (λ a. f a b) n)
    ∙ sum_by-plus row (λ b. f n b) (before n)
    in
    let turn : sum_by (λ b. f n b) (before n) ≡ row n = sum_by_each (λ b. f n b) (λ a. f a n) (before n) (λ b. same n b) in
    let last : sum_by (λ a. f a n) (before (suc n)) ≡ row n + f n n = sum_by_below_suc (λ a. f a n) n in
    let rest = doubled f n same none in
    let half = sum_by_below_suc (λ b. sum_by (λ a. f a b) (before b)) n in
    let whole = sum_by_below_suc (λ b. sum_by (λ a. f a b) (before (suc n))) n in
    let all : sum_by (λ b. sum_by (λ a. f a b) (before (suc n))) (before n) + sum_by (λ a. f a n) (before (suc n)) ≡ 2 * (sum_by (λ b. sum_by (λ a. f a b) (before b)) (before n) + row n) =
    omega (arith, wide, turn, last, rest, none n)
    in whole ∙ all ∙ ap (λ m. 2 * m) (sym half)

-- a sum of terms that are each so many times as large
pub sum_by-times : {X : Type 0} (f : X → ℕ) (k : ℕ) (xs : List X) → sum_by (λ x. f x * k) xs ≡ sum_by f xs * k
sum_by-times f k [] = omega arith
sum_by-times f k (x ∷ xs) =
    omega (arith, sum_by-times f k xs, sum_by-cons (λ x. f x * k) x xs, ap (λ m. m * k) (sum_by-cons f x xs))

-- two tests that pass together
pub same_tests : (b d : Bool) → (b ≡ true → d ≡ true) → (d ≡ true → b ≡ true) → b ≡ d
same_tests true d there back = sym (there refl)
same_tests false true there back = back refl
same_tests false false there back = refl

module _ (T : List Event) where
  conflict_turned : (a b : ℕ) → is_conflict T a b ≡ is_conflict T b a
  conflict_turned a b =
      let one = Decides-is_conflict T a b in
      let other = Decides-is_conflict T b a in
      same_tests (is_conflict T a b) (is_conflict T b a)
      (λ h. other.1 (IsConflicting-sym T a b (one.0 h)))
      (λ h. one.1 (IsConflicting-sym T b a (other.0 h)))

  no_conflict : (b : ℕ) → is_conflict T b b ≡ false
  no_conflict b =
      false_from_ne_true (is_conflict T b b)
      (λ h.
      let found : IsConflicting T b b = (Decides-is_conflict T b b).0 h in
      found.clash.threads (ap (λ (v : Event). v.thread) (same_Some found.v found.w (sym found.first ∙ found.second))))

  -- each event comes before the ends beyond all
  before_whole : (a b : ℕ) → a < length T → is_cut_off T (whole_ends T) a b ≡ true
  before_whole a b lt =
      let v = get_or T a some_event in
      let at : slice_get T a ≡ Some v = slice_get-get_or T a some_event lt in
      let under = counted_is T a (length T) v.thread (thread_here T a v at) lt in
      let all = length-events_before T v.thread (length T) (le_refl (length T)) in
      ap (passes_by (λ (v : Event). nat_lt (place_of T a) (whole_ends T b v.thread))) at ∙ lt-ltb (place_of T a) (length (events_of T v.thread)) (omega (arith, under, all))

pub between_turned : (p q c d : ℕ) → is_between p q c d ≡ is_between p q d c
between_turned p q c d =
    ap (λ x. x || (c == q && d == p)) (and_comm (c == p) (d == q))
    ∙ ap (λ x. (d == q && c == p) || x) (and_comm (c == q) (d == p))
    ∙ or_comm (d == q && c == p) (d == p && c == q)

kept_turned : (keeps : Class → Class → Bool) → ((i j : Class) → keeps i j ≡ keeps j i) → (o k : Option Class) → keeps_by keeps o k ≡ keeps_by keeps k o
kept_turned keeps turned None None = refl
kept_turned keeps turned None (Some j) = refl
kept_turned keeps turned (Some i) None = refl
kept_turned keeps turned (Some i) (Some j) = turned i j

-- tests that agree on events of the trace count alike
pub count_of-same : (T : List Event) (place : ℕ → ℕ) (test other : ℕ × ℕ → Bool) (p q : ℕ) → ((a b : ℕ) → a < b → b < length T → test (a, b) ≡ other (a, b))
    → count_of T place test p q ≡ count_of T place other p q
count_of-same T place test other p q same =
    let term : (ℕ × ℕ → Bool) → ℕ → ℕ → ℕ = λ t b a. cond (is_conflict T a b) (cond (is_between p q (place a) (place b)) (cond (t (a, b)) 1 0) 0) 0 in
    count_of-pairs T place test p q
    ∙ sum_by_below (λ b. sum_by (term test b) (before b)) (λ b. sum_by (term other b) (before b)) (length T)
    (λ b inside. sum_by_below (term test b) (term other b) b
    (λ a lt. ap (λ k. cond (is_conflict T a b) (cond (is_between p q (place a) (place b)) (cond k 1 0) 0) 0) (same a b lt inside)))
    ∙ sym (count_of-pairs T place other p q)

module _ (r : Recording) (formed : IsWellFormed r) (place : ℕ → ℕ) (keeps : Class → Class → Bool) (turned : (i j : Class) → keeps i j ≡ keeps j i) (classes : List ℕ) (infos : List Class) (are : AreClasses r.events place classes infos) (p q : ℕ) where
  -- a pair of events, in either order
  abbrev pub meets : ℕ → ℕ → ℕ
  meets a b = cond (is_conflict r.events a b) (cond (is_between p q (place a) (place b)) (cond (is_kept_pair keeps classes infos a b) 1 0) 0) 0

  meets_turned : (a b : ℕ) → meets a b ≡ meets b a
  meets_turned a b =
      let T = r.events in
      ap (λ c. cond c (cond (is_between p q (place a) (place b)) (cond (is_kept_pair keeps classes infos a b) 1 0) 0) 0) (conflict_turned T a b)
      ∙ ap (λ w. cond (is_conflict T b a) (cond w (cond (is_kept_pair keeps classes infos a b) 1 0) 0) 0) (between_turned p q (place a) (place b))
      ∙ ap (λ k. cond (is_conflict T b a) (cond (is_between p q (place b) (place a)) (cond k 1 0) 0) 0)
      (kept_turned keeps turned (slice_get infos (slice_index classes a)) (slice_get infos (slice_index classes b)))

  meets_none : (b : ℕ) → meets b b ≡ 0
  meets_none b = ap (λ c. cond c (cond (is_between p q (place b) (place b)) (cond (is_kept_pair keeps classes infos b b) 1 0) 0) 0) (no_conflict r.events b)

  -- an event counts all that it meets
  counts_all : (b : ℕ) → b < length r.events → later_count r.events keeps classes infos (thread_number r.events b) (whole_ends r.events) p q b ≡ sum_by (λ a. meets a b) (before (length r.events))
  counts_all b lt =
      let T = r.events in
      let j = get_or infos (slice_index classes b) some_class in
      let ends = whole_ends T in
      count_of_class r place keeps classes infos ends are p q b lt
      ∙ sum_by_below (λ a. cond (is_under T (thread_number T b) (ends b) a && adds_to keeps p q j (slice_get infos (slice_index classes a))) 1 0) (λ a. meets a b) (length T)
      (λ a below.
      term r place keeps classes infos ends are p q a b 1 below lt
      ∙ ap (λ c. cond (is_conflict T a b) (cond (is_between p q (place a) (place b)) (cond (c && is_kept_pair keeps classes infos a b) 1 0) 0) 0) (before_whole T a b below))

  -- Counted from both sides, a group is met twice.
  pub doubled_is : sum_by (λ u. sum_by (later_count r.events keeps classes infos u (whole_ends r.events) p q) (events_of r.events u)) (before (length r.threads))
      ≡ 2 * count_of r.events place (λ e. is_kept_pair keeps classes infos e.0 e.1) p q
  doubled_is =
      let T = r.events in
      later_sums r formed keeps classes infos (whole_ends T) p q
      ∙ sum_by_below (λ b. later_count T keeps classes infos (thread_number T b) (whole_ends T) p q b) (λ b. sum_by (λ a. meets a b) (before (length T))) (length T) counts_all
      ∙ doubled meets (length T) meets_turned meets_none
      ∙ ap (λ m. 2 * m) (sym (count_of-pairs T place (λ e. is_kept_pair keeps classes infos e.0 e.1) p q))

  -- and where every pair is kept
  pub doubled_all : ((i j : Class) → keeps i j ≡ true)
      → sum_by (λ u. sum_by (later_count r.events keeps classes infos u (whole_ends r.events) p q) (events_of r.events u)) (before (length r.threads))
      ≡ 2 * count_of r.events place (λ e. true) p q
  doubled_all all =
      let T = r.events in
      doubled_is
      ∙ ap (λ m. 2 * m)
      (count_of-same T place (λ e. is_kept_pair keeps classes infos e.0 e.1) (λ e. true) p q
      (λ a b lt inside.
      let i = get_or infos (slice_index classes a) some_class in
      let j = get_or infos (slice_index classes b) some_class in
      ap (λ o. keeps_by keeps o (slice_get infos (slice_index classes b))) (class_of r place keeps classes infos (whole_ends T) are p q a (omega arith))
      ∙ ap (keeps_by keeps (Some i)) (class_of r place keeps classes infos (whole_ends T) are p q b inside)
      ∙ all i j))
