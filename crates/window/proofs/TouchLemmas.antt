-- The tables of a part, as it gets one event longer.
use Rattle.std.proofs.Common.{◌≡◌, ◌≢◌, ◌⊎◌, ℕ, ◌+◌, ◌-◌, ◌<◌, ◌≤◌, ◌==◌, ◌||◌, Bool, true, false, cond, List, [], ◌∷◌, ◌++◌, length, take, drop, set, count_by, Some, slice_get, refl, sym, ap, ◌∙◌, arith, eq-eqb, inl, inr}
use Rattle.std.specs.List.{list_any}
use Rattle.std.proofs.lemmas.Bool.{ne_eqb}
use Rattle.std.proofs.lemmas.List.{take_more, length-drop}
use Rattle.std.proofs.lemmas.List.Sums.{sum_by_push, count_by-le-length}
use Rattle.std.proofs.lemmas.Option.{slice_get_within, get_or_from_slice_get}
use Rattle.rapid_text.specs.Operations.{is_acquire, is_release, is_fork, is_join}
use Rattle.rapid_text.specs.declared.event.Event.{Event}
use Rattle.rapid_text.specs.declared.event.Op.{Op}
use Rattle.rapid_text.specs.declared.event.Op.TheVariants.{Acquire, Release, Fork, Join}
use Rattle.trace_rules.proofs.Counts.{list_any_push}
use Rattle.trace_rules.proofs.TableLemmas.{IsApartFrom}
use Rattle.event_index.specs.Layout.{IsTable}
use Rattle.event_index.proofs.TableLemmas.{IsTable-set, IsTable-like}
use Rattle.window.specs.Made.{part_of, is_on, touch_count}
use Rattle.window.specs.Tables.{has_thread, has_fork, has_join}
use Rattle.window.proofs.PlaceLemmas.{get_drop}
use Rattle.window.proofs.HoldsLemmas.{long_part}

-- nothing was done yet
pub part_none : (T : List Event) (k : ℕ) → part_of T k k ≡ []
part_none T k = let none : k - k ≡ 0 = omega arith in ap (λ i. take i (drop k T)) none

or_none : (a b : Bool) → b ≡ false → (a || b) ≡ a
or_none true b h = refl
or_none false b h = h

or_same : (a b : Bool) → b ≡ true → (a || b) ≡ true
or_same true b h = refl
or_same false b h = h

module _ (T : List Event) (k : ℕ) where
  pub touches_none : (n : ℕ) (l : ℕ) → l < n → touch_count T k k l ≡ 0
  touches_none n l lt = ap (count_by (is_on l)) (part_none T k)

  pub threads_none : (n : ℕ) (t : ℕ) → t < n → has_thread T k k t ≡ false
  threads_none n t lt = ap (list_any (λ v. v.thread == t)) (part_none T k)

  pub forks_none : (n : ℕ) (t : ℕ) → t < n → has_fork T k k t ≡ false
  forks_none n t lt = ap (list_any (λ v. is_fork t v.op)) (part_none T k)

module _ (T : List Event) (k j : ℕ) (v : Event) (low : k ≤ j) (at : slice_get T j ≡ Some v) where
  pub part_more : part_of T k (j + 1) ≡ part_of T k j ++ v ∷ []
  part_more =
      let lt : j < length T = slice_get_within T j v at in
      let inside : j - k < length (drop k T) = omega (arith, lt, low, length-drop k T) in
      let spot : k + (j - k) ≡ j = omega (arith, low) in
      let next : j + 1 - k ≡ j - k + 1 = omega (arith, low) in
      let here = get_or_from_slice_get (drop k T) (j - k) v v (get_drop k T (j - k) ∙ ap (slice_get T) spot ∙ at) in
      ap (λ i. take i (drop k T)) next ∙ take_more (drop k T) (j - k) v inside ∙ ap (λ (w : Event). part_of T k j ++ w ∷ []) here

  touch_more : (l : ℕ) → touch_count T k (j + 1) l ≡ touch_count T k j l + cond (is_on l v) 1 0
  touch_more l = ap (count_by (is_on l)) part_more ∙ sum_by_push (λ w. cond {A = ℕ} (is_on l w) 1 0) (part_of T k j) v

  any_more : (p : Event → Bool) → list_any p (part_of T k (j + 1)) ≡ (list_any p (part_of T k j) || p v)
  any_more p = ap (list_any p) part_more ∙ list_any_push p (part_of T k j) v

  -- a count is at most the number of events
  pub touch_small : (l : ℕ) → touch_count T k j l ≤ j - k
  touch_small l =
      let lt : j < length T = slice_get_within T j v at in
      omega (arith, count_by-le-length (is_on l) (part_of T k j), long_part T k j low (omega (arith, lt)))

  -- an event on the lock
  pub touches_on : (locks l x : ℕ) (xs : List ℕ) → (v.op ≡ Acquire l) ⊎ (v.op ≡ Release l) → IsTable (touch_count T k j) locks xs → x ≡ touch_count T k j l + 1
      → IsTable (touch_count T k (j + 1)) locks (set xs l x)
  touches_on locks l x xs on table is =
      IsTable-set (touch_count T k j) (touch_count T k (j + 1)) locks xs l x table
      (is ∙ sym (touch_more l ∙ ap (λ b. touch_count T k j l + cond b 1 0) (here on)))
      (λ i within other. sym (touch_more i ∙ ap (λ b. touch_count T k j i + cond b 1 0) (there i other on) ∙ omega arith))
    where
      here : (v.op ≡ Acquire l) ⊎ (v.op ≡ Release l) → is_on l v ≡ true
      here (inl takes) = ap (λ o. is_acquire l o || is_release l o) takes ∙ ap (λ b. b || false) (eq-eqb l l refl)
      here (inr frees) = ap (λ o. is_acquire l o || is_release l o) frees ∙ eq-eqb l l refl

      there : (i : ℕ) → i ≢ l → (v.op ≡ Acquire l) ⊎ (v.op ≡ Release l) → is_on i v ≡ false
      there i other (inl takes) = ap (λ o. is_acquire i o || is_release i o) takes ∙ ap (λ b. b || false) (ne_eqb l i (λ same. other (sym same)))
      there i other (inr frees) = ap (λ o. is_acquire i o || is_release i o) frees ∙ ne_eqb l i (λ same. other (sym same))

  -- an event on no lock
  pub touches_off : (locks : ℕ) (xs : List ℕ) → ((l : ℕ) → IsApartFrom l v.op) → IsTable (touch_count T k j) locks xs → IsTable (touch_count T k (j + 1)) locks xs
  touches_off locks xs off table =
      IsTable-like (touch_count T k j) (touch_count T k (j + 1)) locks xs table
      (λ l within. sym (touch_more l
      ∙ ap (λ b. touch_count T k j l + cond b 1 0) (ap (λ b. b || is_release l v.op) (off l).0 ∙ (off l).1)
      ∙ omega arith))

  pub threads_on : (threads : ℕ) (xs : List Bool) → IsTable (has_thread T k j) threads xs → IsTable (has_thread T k (j + 1)) threads (set xs v.thread true)
  threads_on threads xs table =
      IsTable-set (has_thread T k j) (has_thread T k (j + 1)) threads xs v.thread true table
      (sym (any_more (λ w. w.thread == v.thread) ∙ or_same (has_thread T k j v.thread) (v.thread == v.thread) (eq-eqb v.thread v.thread refl)))
      (λ t within other. sym (any_more (λ w. w.thread == t) ∙ or_none (has_thread T k j t) (v.thread == t) (ne_eqb v.thread t (λ same. other (sym same)))))

  pub forks_on : (threads u : ℕ) (xs : List Bool) → v.op ≡ Fork u → IsTable (has_fork T k j) threads xs → IsTable (has_fork T k (j + 1)) threads (set xs u true)
  forks_on threads u xs forks table =
      IsTable-set (has_fork T k j) (has_fork T k (j + 1)) threads xs u true table
      (sym (any_more (λ w. is_fork u w.op) ∙ or_same (has_fork T k j u) (is_fork u v.op) (ap (is_fork u) forks ∙ eq-eqb u u refl)))
      (λ t within other.
      sym (any_more (λ w. is_fork t w.op) ∙ or_none (has_fork T k j t) (is_fork t v.op) (ap (is_fork t) forks ∙ ne_eqb u t (λ same. other (sym same)))))

  pub forks_off : (threads : ℕ) (xs : List Bool) → ((u : ℕ) → v.op ≢ Fork u) → IsTable (has_fork T k j) threads xs → IsTable (has_fork T k (j + 1)) threads xs
  forks_off threads xs off table =
      IsTable-like (has_fork T k j) (has_fork T k (j + 1)) threads xs table
      (λ t within. sym (any_more (λ w. is_fork t w.op) ∙ or_none (has_fork T k j t) (is_fork t v.op) (no_fork t v.op off)))
    where
      no_fork : (t : ℕ) (op : Op) → ((u : ℕ) → op ≢ Fork u) → is_fork t op ≡ false
      no_fork t (Fork w) none = absurd (none w refl)
      no_fork t op none = refl

  pub joins_on : (threads u : ℕ) (xs : List Bool) → v.op ≡ Join u → IsTable (has_join T k j) threads xs → IsTable (has_join T k (j + 1)) threads (set xs u true)
  joins_on threads u xs joins table =
      IsTable-set (has_join T k j) (has_join T k (j + 1)) threads xs u true table
      (sym (any_more (λ w. is_join u w.op) ∙ or_same (has_join T k j u) (is_join u v.op) (ap (is_join u) joins ∙ eq-eqb u u refl)))
      (λ t within other.
      sym (any_more (λ w. is_join t w.op) ∙ or_none (has_join T k j t) (is_join t v.op) (ap (is_join t) joins ∙ ne_eqb u t (λ same. other (sym same)))))

  pub joins_off : (threads : ℕ) (xs : List Bool) → ((u : ℕ) → v.op ≢ Join u) → IsTable (has_join T k j) threads xs → IsTable (has_join T k (j + 1)) threads xs
  joins_off threads xs off table =
      IsTable-like (has_join T k j) (has_join T k (j + 1)) threads xs table
      (λ t within. sym (any_more (λ w. is_join t w.op) ∙ or_none (has_join T k j t) (is_join t v.op) (no_join t v.op off)))
    where
      no_join : (t : ℕ) (op : Op) → ((u : ℕ) → op ≢ Join u) → is_join t op ≡ false
      no_join t (Join w) none = absurd (none w refl)
      no_join t op none = refl
