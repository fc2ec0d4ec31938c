-- What one event more, or one less, makes of the tables.
use Rattle.std.proofs.Common.{◌≡◌, ◌≢◌, ℕ, ◌+◌, ◌-◌, ◌<◌, ◌≤◌, ◌==◌, cond, List, [], ◌∷◌, ◌++◌, length, take, get_or, slice_index, count_by, Option, Some, None, slice_get, sym, refl, ap, ◌∙◌, subst, arith, inl, inr}
use Rattle.std.proofs.lemmas.Bool.{cases_eq, eq-eqb, ne_eqb}
use Rattle.std.proofs.lemmas.List.{length_push, take_at, take-append-le, get_or_append_left, get_or_push}
use Rattle.std.proofs.lemmas.List.Sums.{count_by-le-length}
use Rattle.rapid_text.specs.declared.event.Event.{Event}
use Rattle.trace_rules.specs.Rules.{IsDisciplined}
use Rattle.event_index.specs.Events.{passes_by, is_of_thread}
use Rattle.event_index.specs.Tables.{IsTable}
use Rattle.event_index.proofs.CallerLemmas.{get_or-IsTable, IsTable-from_get_or, IsTable-nil, IsTable-push, IsTable-like}
use Rattle.schedule.specs.Reordering.{IsCorrectReordering, IsEnabled}
use Rattle.schedule.specs.Counts.{count_in, AreByThread}
use Rattle.schedule.specs.LatestTables.{held}
use Rattle.schedule.specs.Tables.{AreTables, latest_of, last_set, shadow_of, shadow_at, shadow_of_op, event_of, depth_of, stepped, stepped_back, sets, frees}
use Rattle.schedule.specs.declared.latest.Key.{Key}
use Rattle.schedule.specs.declared.latest.Key.TheVariants.{Variable}
use Rattle.schedule.specs.declared.tables.Tables.{Tables}
use Rattle.schedule.proofs.DepthLemmas.{frees_within}
use Rattle.schedule.proofs.LatestLemmas.{latest_of-push, latest_of-back, shadow_at-op, shadow_of_op-own, event_of-latest, depth-within}
use Rattle.schedule.proofs.LockLemmas.{counts_push}
use Rattle.schedule.proofs.ThreadCounts.{AreByThread-nil}

-- a table without its last place
IsTable-pop : {X : Type 0} (f : ℕ → X) (n : ℕ) (xs ys : List X) (x : X) → IsTable f (n + 1) xs → xs ≡ ys ++ x ∷ [] → IsTable f n ys × (x ≡ f n)
IsTable-pop f n xs ys x table is =
    let long : length ys + 1 ≡ n + 1 = sym (length_push ys x) ∙ ap length (sym is) ∙ table.len in
    let len : length ys ≡ n = omega arith in (
      IsTable-from_get_or f n ys len
          (λ i within.
          sym (get_or_append_left ys (x ∷ []) (f i) i (omega arith))
          ∙ ap (λ l. get_or l i (f i)) (sym is)
          ∙ get_or-IsTable f (n + 1) xs table i (f i) (omega arith)),
      sym (get_or_push ys x x n len) ∙ ap (λ l. get_or l n x) (sym is) ∙ get_or-IsTable f (n + 1) xs table n x (omega arith),
    )

-- what the places of a list shadow, with one event more
pub shadow_of-earlier : (T : List Event) (P : List ℕ) (e i : ℕ) → i < length P → shadow_of T (P ++ e ∷ []) i ≡ shadow_of T P i
shadow_of-earlier T P e i lt =
    ap (λ l. shadow_at T l (slice_index (P ++ e ∷ []) i)) (take-append-le i P (e ∷ []) (omega arith))
    ∙ ap (shadow_at T (take i P)) (get_or_append_left P (e ∷ []) 0 i lt)

pub shadow_of-last : (T : List Event) (P : List ℕ) (e : ℕ) → shadow_of T (P ++ e ∷ []) (length P) ≡ shadow_at T P e
shadow_of-last T P e =
    ap (λ l. shadow_at T l (slice_index (P ++ e ∷ []) (length P))) (take_at P (e ∷ []) (length P) refl)
    ∙ ap (shadow_at T P) (get_or_push P e 0 (length P) refl)

-- the counts of threads, as a function
abbrev pub count_of : List Event → List ℕ → ℕ → ℕ
count_of T P t = count_by (is_of_thread T t) P

module _ (T : List Event) (P : List ℕ) (e : ℕ) (v : Event) (found : slice_get T e ≡ Some v) where
  own_count : count_of T (P ++ e ∷ []) v.thread ≡ count_of T P v.thread + 1
  own_count =
      counts_push (is_of_thread T v.thread) P e
      ∙ ap (λ b. count_of T P v.thread + cond b 1 0) (ap (passes_by (λ w. w.thread == v.thread)) found ∙ eq-eqb v.thread v.thread refl)

  other_count : (t : ℕ) → t ≢ v.thread → count_of T (P ++ e ∷ []) t ≡ count_of T P t
  other_count t other =
      counts_push (is_of_thread T t) P e
      ∙ ap (λ b. count_of T P t + cond b 1 0) (ap (passes_by (λ w. w.thread == t)) found ∙ ne_eqb v.thread t (λ h. other (sym h)))
      ∙ omega arith

  counts-push :
      (before after : ℕ → ℕ) → ((t : ℕ) → before t ≡ count_of T P t)
      → ((t : ℕ) → after t ≡ cond (v.thread == t) (before v.thread + 1) (before t))
      → (t : ℕ) → after t ≡ count_of T (P ++ e ∷ []) t
  counts-push before after table more t =
      elim (cases_eq v.thread t) [
        | inl mine ↦
            more t
            ∙ ap (λ b. cond b (before v.thread + 1) (before t)) (eq-eqb v.thread t mine)
            ∙ ap (λ n. n + 1) (table v.thread)
            ∙ sym own_count
            ∙ ap (count_of T (P ++ e ∷ [])) mine
        | inr other ↦
            more t
            ∙ ap (λ b. cond b (before v.thread + 1) (before t)) (ne_eqb v.thread t other)
            ∙ table t
            ∙ sym (other_count t (λ h. other (sym h)))
      ]

  counts-pop :
      (before after : ℕ → ℕ) → ((t : ℕ) → before t ≡ count_of T (P ++ e ∷ []) t)
      → ((t : ℕ) → after t ≡ cond (v.thread == t) (before v.thread - 1) (before t))
      → (t : ℕ) → after t ≡ count_of T P t
  counts-pop before after table fewer t =
      elim (cases_eq v.thread t) [
        | inl mine ↦
            let less : before v.thread - 1 ≡ count_of T P v.thread = omega (arith, table v.thread, own_count) in
            fewer t
            ∙ ap (λ b. cond b (before v.thread - 1) (before t)) (eq-eqb v.thread t mine)
            ∙ less
            ∙ ap (count_of T P) mine
        | inr other ↦
            fewer t
            ∙ ap (λ b. cond b (before v.thread - 1) (before t)) (ne_eqb v.thread t other)
            ∙ table t
            ∙ other_count t (λ h. other (sym h))
      ]

  module _ (d : IsDisciplined T) (is : IsCorrectReordering T P) (s after : Tables) where
    -- the tables of a list with one event more
    pub AreTables-push :
        AreTables T P s
        → AreByThread after.counts.items
        → (room : ℕ → ℕ) → ((t : ℕ) → room t ≡ count_in s.counts.items t)
        → ((t : ℕ) → count_in after.counts.items t ≡ cond (v.thread == t) (room v.thread + 1) (room t))
        → ((q : Key) → held after.latest q ≡ stepped v.op e q (held s.latest q))
        → (shadow : Option ℕ) → shadow ≡ shadow_of_op (λ q. event_of (held s.latest q)) v.op
        → after.shadows.items ≡ s.shadows.items ++ shadow ∷ []
        → AreTables T (P ++ e ∷ []) after
    AreTables-push tables order room same counts latest shadow is_last shadows = record {
      order = order;
      counts = counts-push room (count_in after.counts.items) (λ t. same t ∙ tables.counts t) counts;
      latest = λ q.
          latest q
          ∙ ap (stepped v.op e q) (tables.latest q)
          ∙ sym (latest_of-push T P e v found q (frees_within T P q d is));
      shadows =
          let hidden : shadow ≡ shadow_of T (P ++ e ∷ []) (length P) =
          is_last
          ∙ shadow_of_op-own (λ q. event_of (held s.latest q)) (last_set T P) v.op
          (λ q _. ap event_of (tables.latest q) ∙ event_of-latest (last_set T P q) (count_by (sets T q) P) (count_by (frees T q) P))
          ∙ sym (shadow_at-op T P e v found (Variable 0))
          ∙ sym (shadow_of-last T P e) in
          subst (IsTable (shadow_of T (P ++ e ∷ [])) (length (P ++ e ∷ []))) (sym shadows)
          (subst (λ (n : ℕ). IsTable (shadow_of T (P ++ e ∷ [])) n (s.shadows.items ++ shadow ∷ [])) (sym (length_push P e))
          (IsTable-push (shadow_of T (P ++ e ∷ [])) (length P) s.shadows.items shadow
          (IsTable-like (shadow_of T P) (shadow_of T (P ++ e ∷ [])) (length P) s.shadows.items tables.shadows (λ i within. sym (shadow_of-earlier T P e i within)))
          hidden));
    }

    -- the tables of a list with one event less
    pub AreTables-pop :
        IsEnabled T P e
        → AreTables T (P ++ e ∷ []) s
        → AreByThread after.counts.items
        → ((t : ℕ) → count_in after.counts.items t ≡ cond (v.thread == t) (count_in s.counts.items v.thread - 1) (count_in s.counts.items t))
        → (shadow : Option ℕ)
        → ((q : Key) → held after.latest q ≡ stepped_back v.op shadow q (held s.latest q))
        → s.shadows.items ≡ after.shadows.items ++ shadow ∷ []
        → AreTables T P after
    AreTables-pop more tables order counts shadow latest shadows =
        let long : IsTable (shadow_of T (P ++ e ∷ [])) (length P + 1) s.shadows.items =
        subst (λ (n : ℕ). IsTable (shadow_of T (P ++ e ∷ [])) n s.shadows.items) (length_push P e) tables.shadows in
        let popped = IsTable-pop (shadow_of T (P ++ e ∷ [])) (length P) s.shadows.items after.shadows.items shadow long shadows in
        let hidden : shadow ≡ shadow_at T P e = popped.1 ∙ shadow_of-last T P e in
        record {
          order = order;
          counts = counts-pop (count_in s.counts.items) (count_in after.counts.items) tables.counts counts;
          latest = λ q.
              latest q
              ∙ ap (stepped_back v.op shadow q) (tables.latest q)
              ∙ ap (λ o. stepped_back v.op o q (latest_of T (P ++ e ∷ []) q)) hidden
              ∙ latest_of-back T P e v found q (frees_within T P q d is) (frees_within T (P ++ e ∷ []) q d more);
          shadows = IsTable-like (shadow_of T (P ++ e ∷ [])) (shadow_of T P) (length P) after.shadows.items popped.0 (λ i within. shadow_of-earlier T P e i within);
        }

-- the tables of the empty list
pub AreTables-nil : (T : List Event) (s : Tables) → s.counts.items ≡ [] → ((q : Key) → held s.latest q ≡ None) → s.shadows.items ≡ [] → AreTables T [] s
AreTables-nil T s counts latest shadows = record {
  order = subst AreByThread (sym counts) AreByThread-nil;
  counts = λ t. ap (λ l. count_in l t) counts;
  latest = latest;
  shadows = subst (IsTable (shadow_of T []) 0) (sym shadows) (IsTable-nil (shadow_of T []));
}

-- the numbers in the tables are small
pub depth_of-small : (T : List Event) (P : List ℕ) (s : Tables) (n : ℕ) → length P ≤ n → AreTables T P s → (q : Key) → depth_of (held s.latest q) ≤ n
depth_of-small T P s n few tables q =
    omega (arith, few, ap depth_of (tables.latest q), depth-within T P q)

pub count_of-small : (T : List Event) (P : List ℕ) (s : Tables) (n t : ℕ) → length P ≤ n → AreTables T P s → count_in s.counts.items t ≤ n
count_of-small T P s n t few tables =
    omega (arith, few, tables.counts t, count_by-le-length (is_of_thread T t) P)
