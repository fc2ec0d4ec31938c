-- A window's events by their places, and how its counts go on from the trace's.
use Rattle.std.proofs.Common.{◌≡◌, ◌≢◌, ℕ, zero, suc, ◌+◌, ◌-◌, ◌<◌, ◌≤◌, ◌==◌, ◌&&◌, Bool, false, cond, List, length, take, count_by, Some, slice_get, refl, sym, ap, ◌∙◌, subst, arith, add-one, inl, inr}
use Rattle.std.proofs.lemmas.Bool.{cases_Bool, and_parts, ne_eqb}
use Rattle.std.proofs.lemmas.List.{take_all}
use Rattle.std.proofs.lemmas.Option.{slice_get_within}
use Rattle.rapid_text.specs.Operations.{is_write, is_acquire, is_release}
use Rattle.rapid_text.specs.declared.event.Event.{Event}
use Rattle.rapid_text.specs.declared.event.Op.{Op}
use Rattle.rapid_text.specs.declared.event.Op.TheVariants.{Read, Write, Acquire, Release, Fork, Join}
use Rattle.trace_rules.specs.Rules.{IsDisciplined, acquire_count, release_count, hold_count}
use Rattle.trace_rules.proofs.CallerLemmas.{release_count-le, release-from_test}
use Rattle.event_index.proofs.CallerLemmas.{count_more}
use Rattle.witness_search.proofs.KeptLemmas.{event_there}
use Rattle.window.specs.Window.{IsWindow, IsPrologueOp, back}

-- a number for each kind of operation
abbrev pub tag : Op → ℕ
tag (Read x) = 0
tag (Write x) = 1
tag (Acquire l) = 2
tag (Release l) = 3
tag (Fork u) = 4
tag (Join u) = 5

pub low_tag : (x lock : ℕ) (op : Op) → IsPrologueOp x lock op → tag op ≤ 3
low_tag x lock op kind =
    elim kind [
      | inl read ↦ omega (arith, ap tag read)
      | inr other ↦ elim other [
        | inl write ↦ omega (arith, ap tag write)
        | inr rest ↦ elim rest [
          | inl frees ↦ omega (arith, ap tag frees)
          | inr takes ↦ omega (arith, ap tag takes.1)
        ]
      ]
    ]

-- the number in an operation
abbrev pub arg : Op → ℕ
arg (Read x) = x
arg (Write x) = x
arg (Acquire l) = l
arg (Release l) = l
arg (Fork u) = u
arg (Join u) = u

-- a release of the prologue is of its own lock
pub releases_lock : (x lock l : ℕ) (op : Op) → op ≡ Release l → IsPrologueOp x lock op → l ≡ lock
releases_lock x lock l op frees kind =
    elim kind [
      | inl read ↦ absurd (omega (arith, ap tag frees, ap tag read))
      | inr other ↦ elim other [
        | inl write ↦ absurd (omega (arith, ap tag frees, ap tag write))
        | inr rest ↦ elim rest [
          | inl own ↦ sym (ap arg frees) ∙ ap arg own
          | inr takes ↦ absurd (omega (arith, ap tag frees, ap tag takes.1))
        ]
      ]
    ]

-- an operation of the prologue writes no other variable
pub writes_x : (x lock y : ℕ) (op : Op) → y ≢ x → IsPrologueOp x lock op → is_write y op ≡ false
writes_x x lock y op other kind =
    elim kind [
      | inl read ↦ ap (is_write y) read
      | inr more ↦ elim more [
        | inl write ↦ ap (is_write y) write ∙ ne_eqb x y (λ same. other (sym same))
        | inr rest ↦ elim rest [
          | inl frees ↦ ap (is_write y) frees
          | inr takes ↦ ap (is_write y) takes.1
        ]
      ]
    ]

-- the counts of a test grow
pub grows : (T : List Event) (test : Event → Bool) (i j : ℕ) → i + j ≤ length T → count_by test (take i T) ≤ count_by test (take (i + j) T)
grows T test i zero within =
    let here : i ≡ i + 0 = omega arith in
    subst (λ (n : ℕ). count_by test (take i T) ≤ count_by test (take n T)) here (omega arith)
grows T test i (suc j) within =
    let (v, at) = event_there T (i + j) (omega arith) in
    let rest = grows T test i j (omega arith) in
    let one = count_more test T (i + j) v at in
    let next : i + j + 1 ≡ i + suc j = omega arith in
    subst (λ (n : ℕ). count_by test (take i T) ≤ count_by test (take n T)) next (omega (arith, rest, one))

module _ (T W : List Event) (k m n x lock c : ℕ) (is : IsWindow T W k m n x lock c) where
  -- an event behind the prologue is one of the trace
  pub there : (e : ℕ) → n ≤ e → e < length W → slice_get W e ≡ slice_get T (back n k e)
  there e low high =
      let spot : n + (e - n) ≡ e = omega arith in
      ap (slice_get W) (sym spot) ∙ is.same (e - n) (omega (arith, is.size))

  pub found_back : (e : ℕ) (v : Event) → n ≤ e → slice_get W e ≡ Some v → slice_get T (back n k e) ≡ Some v
  found_back e v low at = sym (there e low (slice_get_within W e v at)) ∙ at

  pub back_below : (e : ℕ) → n ≤ e → e < length W → back n k e < m
  back_below e low high = omega (arith, is.size, is.begins)

  -- an event of the trace from k to m is one of the window
  pub found_forth : (d : ℕ) → k ≤ d → d < m → slice_get W (n + (d - k)) ≡ slice_get T d
  found_forth d low high =
      let spot : k + (d - k) ≡ d = omega arith in
      is.same (d - k) (omega arith) ∙ ap (slice_get T) spot

  -- the prologue releases no lock but its own
  module _ (t l : ℕ) (other : l ≢ lock) where
    releases_not : (v : Event) → IsPrologueOp x lock v.op → (v.thread == t && is_release l v.op) ≡ false
    releases_not v kind =
        elim (cases_Bool (v.thread == t && is_release l v.op)) [
          | inr fails ↦ fails
          | inl passes ↦ absurd (other (releases_lock x lock l v.op (release-from_test l v.op (and_parts (v.thread == t) (is_release l v.op) passes).1) kind))
        ]

    pub no_release : (j : ℕ) → j ≤ n → release_count (take j W) t l ≡ 0
    no_release zero fits = refl
    no_release (suc j) fits =
        let (v, at) = event_there W j (omega (arith, is.size)) in
        let rest = no_release j (omega arith) in
        let one = count_more (λ w. w.thread == t && is_release l w.op) W j v at in
        let none = releases_not v (is.ops j v (omega arith) at) in
        subst (λ (i : ℕ). release_count (take i W) t l ≡ 0) (add-one j)
        (one ∙ ap (λ b. release_count (take j W) t l + cond b 1 0) none ∙ omega (arith, rest))

  -- after the prologue the counts go on as in the trace from k on
  pub counts_on : (test : Event → Bool) (i : ℕ) → i ≤ m - k
      → count_by test (take (n + i) W) + count_by test (take k T) ≡ count_by test (take n W) + count_by test (take (k + i) T)
  counts_on test zero fits =
      let here : n ≡ n + 0 = omega arith in
      let also : k ≡ k + 0 = omega arith in
      subst (λ (a : ℕ). count_by test (take a W) + count_by test (take k T) ≡ count_by test (take n W) + count_by test (take (k + 0) T)) here
      (subst (λ (b : ℕ). count_by test (take n W) + count_by test (take k T) ≡ count_by test (take n W) + count_by test (take b T)) also refl)
  counts_on test (suc i) fits =
      let (v, at) = event_there W (n + i) (omega (arith, is.size)) in
      let also : slice_get T (k + i) ≡ Some v = sym (is.same i (omega arith)) ∙ at in
      let rest = counts_on test i (omega arith) in
      let one = count_more test W (n + i) v at in
      let two = count_more test T (k + i) v also in
      let here : n + i + 1 ≡ n + suc i = omega arith in
      let there : k + i + 1 ≡ k + suc i = omega arith in
      subst (λ (a : ℕ). count_by test (take a W) + count_by test (take k T) ≡ count_by test (take n W) + count_by test (take (k + suc i) T)) here
      (subst (λ (b : ℕ). count_by test (take (n + i + 1) W) + count_by test (take k T) ≡ count_by test (take n W) + count_by test (take b T)) there
      (omega (arith, rest, one, two)))

  -- the window lets a lock go as often as its beginnings or oftener
  pub releases_within : (t l j : ℕ) → j ≤ length W → release_count (take j W) t l ≤ release_count W t l
  releases_within t l j fits =
      let spot : j + (length W - j) ≡ length W = omega arith in
      let all : take (j + (length W - j)) W ≡ W = ap (λ i. take i W) spot ∙ take_all (length W) W (omega arith) in
      subst (λ (es : List Event). release_count (take j W) t l ≤ release_count es t l) all
      (grows W (λ v. v.thread == t && is_release l v.op) j (length W - j) (omega arith))

  module _ (rules : IsDisciplined T) (t l i : ℕ) (other : l ≢ lock) (fits : i ≤ m - k) where
    -- what a thread does not hold in the trace it does not hold in the window
    pub holds_none : hold_count (take (k + i) T) t l ≡ 0 → hold_count (take (n + i) W) t l ≡ 0
    holds_none none =
        let takes = counts_on (λ v. v.thread == t && is_acquire l v.op) i fits in
        let frees = counts_on (λ v. v.thread == t && is_release l v.op) i fits in
        omega (arith, none, takes, frees, (is.taken t l other).most, no_release t l other n (omega arith), release_count-le T rules k t l, release_count-le T rules (k + i) t l)

    -- what it holds and lets go there it holds in the window
    pub holds_some : (e : ℕ) (v : Event) → n ≤ e → slice_get W e ≡ Some v → v.op ≡ Release l → 0 < hold_count (take (k + i) T) t l → 0 < hold_count (take (n + i) W) t l
    holds_some e v high at frees_it some =
        let takes = counts_on (λ w. w.thread == t && is_acquire l w.op) i fits in
        let frees = counts_on (λ w. w.thread == t && is_release l w.op) i fits in
        let none = no_release t l other n (omega arith) in
        let le = release_count-le T rules k t l in
        elim (is.taken t l other).enough [
          | inl all ↦ omega (arith, some, takes, frees, all, none, le)
          | inr rest ↦ elim rest [
            | inl fewer ↦
                let up : acquire_count (take n W) t l ≤ acquire_count (take (n + i) W) t l = grows W (λ w. w.thread == t && is_acquire l w.op) n i (omega (arith, is.size, fits)) in
                omega (arith, fewer, up, releases_within t l (n + i) (omega (arith, is.size, fits)))
            | inr off ↦ absurd ((off e v high at).1 frees_it)
          ]
        ]
