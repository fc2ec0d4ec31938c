-- The accesses at which each lock is held, one lock and one event further.
use Rattle.std.proofs.Common.{◌≡◌, ℕ, ◌+◌, ◌-◌, ◌<◌, ◌≤◌, ◌==◌, ◌&&◌, nat_lt, Bool, true, false, cond, List, [], ◌∷◌, ◌++◌, Vec, All, Some, set, take, filter, count_by, length, slice_index, get_or, sym, ap, ◌∙◌, arith, inl, inr, eq-eqb, append-nil}
use Rattle.std.specs.List.{list_any, slice_get}
use Rattle.std.specs.declared.alloc.Global.{Global}
use Rattle.std.proofs.Math.Seq.{get_or-append_seam}
use Rattle.std.proofs.lemmas.Bool.{cases_Bool, cases_eq, cases_lt, true≢false, and_from, and_left, and_right, ne_eqb, lt-ltb, le-ltb}
use Rattle.std.proofs.lemmas.List.{length-append}
use Rattle.std.proofs.lemmas.List.Elements.{All-filter, All-from_get_or}
use Rattle.std.proofs.lemmas.List.FromFn.{length-range_with_len, get_or-range_with_len}
use Rattle.std.proofs.lemmas.Option.{slice_get_within}
use Rattle.trace_rules.specs.Rules.{hold_count}
use Rattle.trace_rules.proofs.Counts.{list_any-from_count, slice_get-set}
use Rattle.event_index.specs.Events.{passes_by}
use Rattle.variable_uses.specs.Rows.{is_held_at}
use Rattle.variable_uses.proofs.HeldLemmas.{count_from_any}
use Rattle.rapid_text.specs.declared.event.Event.{Event}
use Rattle.event_index.specs.Lookups.{before}
use Rattle.event_index.proofs.CallerLemmas.{filter_more_before}
use Rattle.variable_uses.specs.Held.{AreHeld, AreUsesBefore, AreUsesWith, IsPut, is_use_under, once}
use Rattle.variable_uses.proofs.SeenLemmas.{any_push_no, any_push_yes}

-- the last of the events below n is not n
last_low : (n : ℕ) (events : List ℕ) → All (λ e. e < n) events → (nat_lt 0 (length events) && slice_index events (length events - 1) == n) ≡ false
last_low n events low = elim (cases_lt 0 (length events)) [
  | inl some ↦
      let lt : slice_index events (length events - 1) < n = low (length events - 1) 0 (omega (arith, some)) in
      and_right (nat_lt 0 (length events)) (slice_index events (length events - 1) == n) (ne_eqb (slice_index events (length events - 1)) n (omega (arith, lt)))
  | inr none ↦ and_left (nat_lt 0 (length events)) (slice_index events (length events - 1) == n) (le-ltb 0 (length events) none)
]

last_mine : (n : ℕ) (events : List ℕ) → (nat_lt 0 (length (events ++ n ∷ [])) && slice_index (events ++ n ∷ []) (length (events ++ n ∷ []) - 1) == n) ≡ true
last_mine n events =
    let len : length (events ++ n ∷ []) ≡ length events + 1 = length-append events (n ∷ []) in
    let at : length (events ++ n ∷ []) - 1 ≡ length events = omega (arith, len) in
    and_from (nat_lt 0 (length (events ++ n ∷ []))) (slice_index (events ++ n ∷ []) (length (events ++ n ∷ []) - 1) == n) (lt-ltb 0 (length (events ++ n ∷ [])) (omega (arith, len)))
    (eq-eqb (slice_index (events ++ n ∷ []) (length (events ++ n ∷ []) - 1)) n (ap (slice_index (events ++ n ∷ [])) at ∙ get_or-append_seam events n [] 0))

-- the event is there once afterwards
once-with : (n : ℕ) (events : List ℕ) (b : Bool) → All (λ e. e < n) events → once (events ++ cond b (n ∷ []) []) n ≡ events ++ n ∷ []
once-with n events true low = ap (λ b. cond b (events ++ n ∷ []) ((events ++ n ∷ []) ++ n ∷ [])) (last_mine n events)
once-with n events false low = ap (λ xs. once xs n) (append-nil events) ∙ ap (λ b. cond b events (events ++ n ∷ [])) (last_low n events low)

-- events of a filter are low
filter_low : (test : ℕ → Bool) (n : ℕ) → All (λ e. e < n) (filter test (before n))
filter_low test n = All-filter test (λ e. e < n) (before n) (All-from_get_or (λ e. e < n) (before n) 0 (λ i lt. let len : i < n = omega (arith, lt, length-range_with_len 0 n) in let is : get_or (before n) i 0 ≡ 0 + i = get_or-range_with_len 0 n i 0 len in omega (arith, is, len)))

-- one lock more
pub AreUsesWith-more : (T : List Event) (numbers : List ℕ) (n : ℕ) (locks : List ℕ) (lock : ℕ) (old new : List (Vec ℕ Global)) → AreUsesWith T numbers n locks old → IsPut old lock n new → AreUsesWith T numbers n (locks ++ lock ∷ []) new
AreUsesWith-more T numbers n locks lock old new are put l v at =
    let (u, was, is) = put l v at in
    let base : List ℕ = filter (is_use_under T numbers l) (before n) in
    let old_is : u.items ≡ base ++ cond (list_any (λ k. k == l) locks) (n ∷ []) [] = are l u was in
    elim (cases_eq l lock) [
      | inl same ↦
          is ∙ ap (λ b. cond b (once u.items n) u.items) (eq-eqb l lock same) ∙ ap (λ xs. once xs n) old_is ∙ once-with n base (list_any (λ k. k == l) locks) (filter_low (is_use_under T numbers l) n)
          ∙ sym (ap (λ b. base ++ cond b (n ∷ []) []) (any_push_yes (λ k. k == l) locks lock (eq-eqb lock l (sym same))))
      | inr other ↦
          is ∙ ap (λ b. cond b (once u.items n) u.items) (ne_eqb l lock other) ∙ old_is ∙ sym (ap (λ b. base ++ cond b (n ∷ []) []) (any_push_no (λ k. k == l) locks lock (ne_eqb lock l (λ is. other (sym is)))))
    ]

-- the first lock
pub AreUsesWith-begin : (T : List Event) (numbers : List ℕ) (n : ℕ) (lists : List (Vec ℕ Global)) → AreUsesBefore T numbers n lists → AreUsesWith T numbers n [] lists
AreUsesWith-begin T numbers n lists are l v at = are l v at ∙ sym (append-nil (filter (is_use_under T numbers l) (before n)))

any_count : (test : ℕ → Bool) (xs : List ℕ) → list_any test xs ≡ nat_lt 0 (count_by test xs)
any_count test xs = elim (cases_Bool (list_any test xs)) [
  | inl some ↦ some ∙ sym (lt-ltb 0 (count_by test xs) (count_from_any test xs some))
  | inr none ↦ none ∙ sym (le-ltb 0 (count_by test xs) (elim (cases_lt 0 (count_by test xs)) [
    | inl positive ↦ absurd (true≢false (sym (list_any-from_count test test xs (λ m passes. passes) positive) ∙ none))
    | inr le ↦ le
  ]))
]

-- the next event, if it is in a row and these are the locks that its thread holds
pub AreUsesBefore-one : (T : List Event) (numbers : List ℕ) (n : ℕ) (v : Event) (held : List (Vec ℕ Global)) (u : Vec ℕ Global) (lists : List (Vec ℕ Global)) → slice_get T n ≡ Some v → 0 < slice_index numbers n
    → AreHeld T n held → slice_get held v.thread ≡ Some u → AreUsesWith T numbers n u.items lists → AreUsesBefore T numbers (n + 1) lists
AreUsesBefore-one T numbers n v held u lists found positive holds is are l w at =
    let here : is_held_at T l n ≡ nat_lt 0 (hold_count (take n T) v.thread l) = ap (passes_by (λ x. nat_lt 0 (hold_count (take n T) x.thread l))) found in
    let mine : list_any (λ k. k == l) u.items ≡ is_held_at T l n = any_count (λ k. k == l) u.items ∙ ap (nat_lt 0) (holds v.thread u l is) ∙ sym here in
    let test : is_use_under T numbers l n ≡ is_held_at T l n = ap (λ b. b && is_held_at T l n) (lt-ltb 0 (slice_index numbers n) positive) in
    are l w at ∙ ap (λ b. filter (is_use_under T numbers l) (before n) ++ cond b (n ∷ []) []) (mine ∙ sym test) ∙ sym (filter_more_before (is_use_under T numbers l) n)

-- the next event, if it is in no row
pub AreUsesBefore-none : (T : List Event) (numbers : List ℕ) (n : ℕ) (lists : List (Vec ℕ Global)) → slice_index numbers n ≡ 0 → AreUsesBefore T numbers n lists → AreUsesBefore T numbers (n + 1) lists
AreUsesBefore-none T numbers n lists none are l w at =
    let test : is_use_under T numbers l n ≡ false = and_left (nat_lt 0 (slice_index numbers n)) (is_held_at T l n) (ap (nat_lt 0) none) in
    are l w at ∙ sym (filter_more_before (is_use_under T numbers l) n ∙ ap (λ b. filter (is_use_under T numbers l) (before n) ++ cond b (n ∷ []) []) test ∙ append-nil (filter (is_use_under T numbers l) (before n)))

-- a lock without a list
pub IsPut-none : (old : List (Vec ℕ Global)) (lock e : ℕ) → length old ≤ lock → IsPut old lock e old
IsPut-none old lock e past l v at =
    let low = slice_get_within old l v at in
    (v, at, sym (ap (λ b. cond b (once v.items e) v.items) (ne_eqb l lock (omega (arith, low, past)))))

-- one with a list
pub IsPut-set : (old : List (Vec ℕ Global)) (lock e : ℕ) (u w : Vec ℕ Global) (new : List (Vec ℕ Global)) → slice_get old lock ≡ Some u → w.items ≡ once u.items e → new ≡ set old lock w → IsPut old lock e new
IsPut-set old lock e u w new was is put l v at = elim (slice_get-set old lock l w v (slice_get_within old lock u was) (ap (λ xs. slice_get xs l) (sym put) ∙ at)) [
  | inl mine ↦
      (u, ap (slice_get old) mine.0 ∙ was, ap (λ (x : Vec ℕ Global). x.items) (sym mine.1) ∙ is ∙ sym (ap (λ b. cond b (once u.items e) u.items) (eq-eqb l lock mine.0)))
  | inr kept ↦ (v, kept.1, sym (ap (λ b. cond b (once v.items e) v.items) (ne_eqb l lock kept.0)))
]
