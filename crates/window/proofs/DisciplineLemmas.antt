-- A window of a trace that keeps the rules keeps them.
use Rattle.std.proofs.Common.{◌≡◌, ◌≢◌, ℕ, ◌+◌, ◌-◌, ◌<◌, ◌≤◌, ◌==◌, ◌&&◌, Bool, true, cond, List, length, take, count_by, Some, slice_get, refl, sym, ap, ◌∙◌, subst, arith, eq-eqb, inl, inr}
use Rattle.std.proofs.lemmas.Bool.{cases_lt, cases_eq, and_from}
use Rattle.std.proofs.lemmas.Option.{slice_get_within}
use Rattle.rapid_text.specs.Operations.{is_acquire}
use Rattle.rapid_text.specs.declared.event.Event.{Event}
use Rattle.rapid_text.specs.declared.event.Op.{Op}
use Rattle.rapid_text.specs.declared.event.Op.TheVariants.{Acquire, Release, Fork, Join}
use Rattle.trace_rules.specs.Rules.{IsDisciplined, acquire_count, hold_count}
use Rattle.trace_rules.proofs.CallerLemmas.{one_holder}
use Rattle.event_index.proofs.CallerLemmas.{count_more, op_here}
use Rattle.window.specs.Window.{IsWindow, back}
use Rattle.window.specs.Laws.{WindowIsDisciplined}
use Rattle.window.proofs.WindowLemmas.{tag, low_tag, releases_lock, grows, found_back, holds_none, holds_some}

module _ (T W : List Event) (k m n x lock c : ℕ) (rules : IsDisciplined T) (is : IsWindow T W k m n x lock c) where
  -- an event of the prologue is no fork or join
  front : (i : ℕ) (v : Event) → i < n → slice_get W i ≡ Some v → tag v.op ≤ 3
  front i v low at = low_tag x lock v.op (is.ops i v low at)

  -- where an operation that is none of the prologue's stands
  behind : (i : ℕ) (v : Event) → 3 < tag v.op → slice_get W i ≡ Some v → n ≤ i
  behind i v high at =
      elim (cases_lt i n) [
        | inl low ↦ absurd (omega (arith, high, front i v low at))
        | inr le ↦ le
      ]

  -- a lock that an event of the prologue takes is held at k by its thread
  held_at : (i l : ℕ) (v : Event) → l ≢ lock → i < n → slice_get W i ≡ Some v → v.op ≡ Acquire l → 0 < hold_count (take k T) v.thread l
  held_at i l v other low at takes =
      let test : Event → Bool = λ w. w.thread == v.thread && is_acquire l w.op in
      let passes : test v ≡ true = and_from (v.thread == v.thread) (is_acquire l v.op) (eq-eqb v.thread v.thread refl) (ap (is_acquire l) takes ∙ eq-eqb l l refl) in
      let one : count_by test (take (i + 1) W) ≡ count_by test (take i W) + 1 = count_more test W i v at ∙ ap (λ b. count_by test (take i W) + cond b 1 0) passes in
      let spot : i + 1 + (n - (i + 1)) ≡ n = omega arith in
      let up : count_by test (take (i + 1) W) ≤ count_by test (take n W) =
      subst (λ (j : ℕ). count_by test (take (i + 1) W) ≤ count_by test (take j W)) spot (grows W test (i + 1) (n - (i + 1)) (omega (arith, is.size))) in
      omega (arith, one, up, (is.taken v.thread l other).most)

  free_front : (j l u : ℕ) (e : Event) → l ≢ lock → j < n → slice_get W j ≡ Some e → e.op ≡ Acquire l → u ≢ e.thread → hold_count (take j W) u l ≡ 0
  free_front j l u e apart low at takes other =
      let mine : 0 < hold_count (take k T) e.thread l = held_at j l e apart low at takes in
      let none : hold_count (take k T) u l ≡ 0 =
      elim (cases_lt 0 (hold_count (take k T) u l)) [
        | inl holds ↦ absurd (other (one_holder T rules k u l e.thread holds mine))
        | inr le ↦ omega (arith, le)
      ] in
      let spot : j + (n - j) ≡ n = omega arith in
      let up : acquire_count (take j W) u l ≤ acquire_count (take n W) u l =
      subst (λ (i : ℕ). acquire_count (take j W) u l ≤ acquire_count (take i W) u l) spot
      (grows W (λ w. w.thread == u && is_acquire l w.op) j (n - j) (omega (arith, is.size))) in
      omega (arith, none, up, (is.taken u l apart).most)

  -- what a thread holds before an event behind the prologue
  none_before : (j t l : ℕ) (e : Event) → l ≢ lock → n ≤ j → slice_get W j ≡ Some e → hold_count (take (back n k j) T) t l ≡ 0 → hold_count (take j W) t l ≡ 0
  none_before j t l e other low at none =
      let high : j < length W = slice_get_within W j e at in
      let spot : n + (j - n) ≡ j = omega arith in
      subst (λ (i : ℕ). hold_count (take i W) t l ≡ 0) spot
      (holds_none T W k m n x lock c is rules t l (j - n) other (omega (arith, is.size, high)) none)

  some_before : (j t l : ℕ) (e : Event) → l ≢ lock → n ≤ j → slice_get W j ≡ Some e → e.op ≡ Release l → 0 < hold_count (take (back n k j) T) t l → 0 < hold_count (take j W) t l
  some_before j t l e other low at frees some =
      let high : j < length W = slice_get_within W j e at in
      let spot : n + (j - n) ≡ j = omega arith in
      subst (λ (i : ℕ). 0 < hold_count (take i W) t l) spot
      (holds_some T W k m n x lock c is rules t l (j - n) other (omega (arith, is.size, high)) j e low at frees some)

  forks_op : (op : Op) (u : ℕ) → op ≡ Fork u → 3 < tag op
  forks_op op u h = omega (arith, ap tag h)

  joins_op : (op : Op) (u : ℕ) → op ≡ Join u → 3 < tag op
  joins_op op u h = omega (arith, ap tag h)

  pub window-disciplined : IsDisciplined W
  window-disciplined = record {
    no_event_after_join = λ i j d e lt at also joins.
        let low = behind i d (joins_op d.op e.thread joins) at in
        rules.no_event_after_join (back n k i) (back n k j) d e (omega (arith, low)) (found_back T W k m n x lock c is i d low at) (found_back T W k m n x lock c is j e (omega (arith, low)) also) joins;
    no_own_fork = λ j e at forks.
        let low = behind j e (forks_op e.op e.thread forks) at in
        rules.no_own_fork (back n k j) e (found_back T W k m n x lock c is j e low at) forks;
    no_own_join = λ j e at joins.
        let low = behind j e (joins_op e.op e.thread joins) at in
        rules.no_own_join (back n k j) e (found_back T W k m n x lock c is j e low at) joins;
    no_second_fork = λ i j u d e lt at also forks first.
        let low = behind i d (forks_op d.op u first) at in
        rules.no_second_fork (back n k i) (back n k j) u d e (omega (arith, low)) (found_back T W k m n x lock c is i d low at) (found_back T W k m n x lock c is j e (omega (arith, low)) also) forks first;
    no_event_before_fork = λ i j u d e lt at also forks same.
        let high = behind j e (forks_op e.op u forks) also in
        elim (cases_lt i n) [
          | inl low ↦ is.unforked i j d low high at (op_here W j e also ∙ ap Some (forks ∙ ap Fork (sym same)))
          | inr le ↦ rules.no_event_before_fork (back n k i) (back n k j) u d e (omega (arith, le)) (found_back T W k m n x lock c is i d le at) (found_back T W k m n x lock c is j e high also) forks same
        ];
    no_join_before_fork = λ i j u d e lt at also forks joins.
        let low = behind i d (joins_op d.op u joins) at in
        rules.no_join_before_fork (back n k i) (back n k j) u d e (omega (arith, low)) (found_back T W k m n x lock c is i d low at) (found_back T W k m n x lock c is j e (omega (arith, low)) also) forks joins;
    acquires_free = λ j l u e at takes other.
        elim (cases_lt j n) [
          | inl low ↦ elim (cases_eq l lock) [
            | inl same ↦ subst (λ (q : ℕ). hold_count (take j W) u q ≡ 0) (sym same) (is.free j u e low at (takes ∙ ap Acquire same))
            | inr apart ↦ free_front j l u e apart low at takes other
          ]
          | inr le ↦
              let apart : l ≢ lock = λ same. (is.unlocked j e le at).0 (takes ∙ ap Acquire same) in
              none_before j u l e apart le at (rules.acquires_free (back n k j) l u e (found_back T W k m n x lock c is j e le at) takes other)
        ];
    releases_held = λ j l e at frees.
        elim (cases_lt j n) [
          | inl low ↦
              let same : l ≡ lock = releases_lock x lock l e.op frees (is.ops j e low at) in
              elim (is.held j e low at) [
                | inl takes ↦ absurd (omega (arith, ap tag frees, ap tag takes.1))
                | inr some ↦ subst (λ (q : ℕ). 0 < hold_count (take j W) e.thread q) (sym same) some
              ]
          | inr le ↦
              let apart : l ≢ lock = λ same. (is.unlocked j e le at).1 (frees ∙ ap Release same) in
              let there : 0 < hold_count (take (back n k j) T) e.thread l = rules.releases_held (back n k j) l e (found_back T W k m n x lock c is j e le at) frees in
              some_before j e.thread l e apart le at frees there
        ];
  }

pub disciplined_law : WindowIsDisciplined
disciplined_law T W k m n x lock c rules is = window-disciplined T W k m n x lock c rules is
