-- What is held of each lock, as one event more comes.
use Rattle.std.proofs.Common.{◌≡◌, ◌≢◌, ℕ, ◌+◌, ◌-◌, ◌<◌, ◌≤◌, ◌==◌, ◌&&◌, Bool, true, false, cond, List, length, take, set, replicate, get_or, Some, slice_get, refl, sym, ap, ◌∙◌, subst, arith, eq-eqb, length-set, length-take-le, inl, inr}
use Rattle.std.proofs.lemmas.Bool.{cases_eq, ne_eqb}
use Rattle.std.proofs.lemmas.List.{length-replicate, get_or-replicate}
use Rattle.std.proofs.lemmas.List.Sums.{count_by-le-length}
use Rattle.std.proofs.lemmas.Option.{slice_get_within, slice_get_read, get_or_from_slice_get}
use Rattle.rapid_text.specs.Operations.{is_acquire, is_release}
use Rattle.rapid_text.specs.declared.event.Event.{Event}
use Rattle.rapid_text.specs.declared.event.Op.{Op}
use Rattle.rapid_text.specs.declared.event.Op.TheVariants.{Acquire, Release}
use Rattle.trace_rules.specs.Rules.{IsDisciplined, acquire_count, release_count, hold_count}
use Rattle.trace_rules.proofs.CallerLemmas.{release_count-le}
use Rattle.trace_rules.proofs.Counts.{slice_get-set}
use Rattle.trace_rules.proofs.TableLemmas.{IsApartFrom}
use Rattle.event_index.proofs.CallerLemmas.{count_more}
use Rattle.window.specs.Tables.{IsHeld, AreHeld}
use Rattle.window.specs.declared.holding.Held.{Held}

-- before the first event nothing is held
pub held_none : (T : List Event) (locks : ℕ) (h : Held) → h.depth ≡ 0 → AreHeld T 0 locks (replicate locks h)
held_none T locks h none = record {
  len = length-replicate locks h;
  at = λ l g found t.
      let lt : l < locks = omega (arith, slice_get_within (replicate locks h) l g found, length-replicate locks h) in
      let same : g ≡ h = sym (get_or_from_slice_get (replicate locks h) l g h found) ∙ get_or-replicate locks l h h lt in
      either (t == g.thread) g.depth (ap (λ (z : Held). z.depth) same ∙ none);
}
  where
    either : (b : Bool) (d : ℕ) → d ≡ 0 → 0 ≡ cond {A = ℕ} b d 0
    either true d is = sym is
    either false d is = refl

module _ (T : List Event) (rules : IsDisciplined T) (j : ℕ) (v : Event) (at : slice_get T j ≡ Some v) where
  takes_more : (t l : ℕ) → acquire_count (take (j + 1) T) t l ≡ acquire_count (take j T) t l + cond (v.thread == t && is_acquire l v.op) 1 0
  takes_more t l = count_more (λ w. w.thread == t && is_acquire l w.op) T j v at

  frees_more : (t l : ℕ) → release_count (take (j + 1) T) t l ≡ release_count (take j T) t l + cond (v.thread == t && is_release l v.op) 1 0
  frees_more t l = count_more (λ w. w.thread == t && is_release l w.op) T j v at

  none_of : (b : Bool) → cond {A = ℕ} (b && false) 1 0 ≡ 0
  none_of true = refl
  none_of false = refl

  -- an operation on another lock, or on none
  same_hold : (t l : ℕ) → is_acquire l v.op ≡ false → is_release l v.op ≡ false → hold_count (take (j + 1) T) t l ≡ hold_count (take j T) t l
  same_hold t l no_take no_free =
      let a : cond {A = ℕ} (v.thread == t && is_acquire l v.op) 1 0 ≡ 0 = ap (λ b. cond {A = ℕ} (v.thread == t && b) 1 0) no_take ∙ none_of (v.thread == t) in
      let r : cond {A = ℕ} (v.thread == t && is_release l v.op) 1 0 ≡ 0 = ap (λ b. cond {A = ℕ} (v.thread == t && b) 1 0) no_free ∙ none_of (v.thread == t) in
      omega (arith, a, r, takes_more t l, frees_more t l)

  -- the operation of another thread
  other_hold : (t l : ℕ) → t ≢ v.thread → hold_count (take (j + 1) T) t l ≡ hold_count (take j T) t l
  other_hold t l other =
      let fails : (v.thread == t) ≡ false = ne_eqb v.thread t (λ same. other (sym same)) in
      let a : cond {A = ℕ} (v.thread == t && is_acquire l v.op) 1 0 ≡ 0 = ap (λ b. cond {A = ℕ} (b && is_acquire l v.op) 1 0) fails in
      let r : cond {A = ℕ} (v.thread == t && is_release l v.op) 1 0 ≡ 0 = ap (λ b. cond {A = ℕ} (b && is_release l v.op) 1 0) fails in
      omega (arith, a, r, takes_more t l, frees_more t l)

  held_is : (l t : ℕ) (h : Held) → IsHeld (take j T) l h → t ≡ h.thread → hold_count (take j T) t l ≡ h.depth
  held_is l t h is same = is t ∙ ap (λ b. cond {A = ℕ} b h.depth 0) (eq-eqb t h.thread same)

  held_not : (l t : ℕ) (h : Held) → IsHeld (take j T) l h → t ≢ h.thread → hold_count (take j T) t l ≡ 0
  held_not l t h is other = is t ∙ ap (λ b. cond {A = ℕ} b h.depth 0) (ne_eqb t h.thread other)

  pub depth_small : (l : ℕ) (h : Held) → IsHeld (take j T) l h → h.depth ≤ j
  depth_small l h is =
      let lt : j < length T = slice_get_within T j v at in
      omega (
        arith,
        held_is l h.thread h is refl,
        count_by-le-length (λ (w : Event). w.thread == h.thread && is_acquire l w.op) (take j T),
        length-take-le j T (omega (arith, lt)),
      )

  pub held_acquire : (l : ℕ) (h : Held) → v.op ≡ Acquire l → IsHeld (take j T) l h → IsHeld (take (j + 1) T) l (record { thread = v.thread; depth = h.depth + 1 })
  held_acquire l h takes is t =
      let le = release_count-le T rules j t l in
      elim (cases_eq t v.thread) [
        | inl same ↦
            let yes : (v.thread == t && is_acquire l v.op) ≡ true =
            ap (λ b. b && is_acquire l v.op) (eq-eqb v.thread t (sym same)) ∙ ap (is_acquire l) takes ∙ eq-eqb l l refl in
            let a : cond {A = ℕ} (v.thread == t && is_acquire l v.op) 1 0 ≡ 1 = ap (λ b. cond {A = ℕ} b 1 0) yes in
            let r : cond {A = ℕ} (v.thread == t && is_release l v.op) 1 0 ≡ 0 = ap (λ (o : Op). cond {A = ℕ} (v.thread == t && is_release l o) 1 0) takes ∙ none_of (v.thread == t) in
            let depth : hold_count (take j T) t l ≡ h.depth =
            elim (cases_eq t h.thread) [
              | inl own ↦ held_is l t h is own
              | inr other ↦
                  let none : hold_count (take j T) h.thread l ≡ 0 = rules.acquires_free j l h.thread v at takes (λ z. other (same ∙ sym z)) in
                  omega (arith, none, held_is l h.thread h is refl, held_not l t h is other)
            ] in
            let now : hold_count (take (j + 1) T) t l ≡ h.depth + 1 = omega (arith, a, r, le, depth, takes_more t l, frees_more t l) in
            now ∙ sym (ap (λ b. cond {A = ℕ} b (h.depth + 1) 0) (eq-eqb t v.thread same))
        | inr other ↦
            other_hold t l other ∙ rules.acquires_free j l t v at takes other ∙ sym (ap (λ b. cond {A = ℕ} b (h.depth + 1) 0) (ne_eqb t v.thread other))
      ]

  pub release_own : (l : ℕ) (h : Held) → v.op ≡ Release l → IsHeld (take j T) l h → (v.thread ≡ h.thread) × (0 < h.depth)
  release_own l h frees is =
      let some : 0 < hold_count (take j T) v.thread l = rules.releases_held j l v at frees in
      elim (cases_eq v.thread h.thread) [
        | inl own ↦ (own, omega (arith, some, held_is l v.thread h is own))
        | inr other ↦ absurd (omega (arith, some, held_not l v.thread h is other))
      ]

  pub held_release : (l : ℕ) (h : Held) → v.op ≡ Release l → IsHeld (take j T) l h → IsHeld (take (j + 1) T) l (record { thread = v.thread; depth = h.depth - 1 })
  held_release l h frees is t =
      let own = release_own l h frees is in
      let le = release_count-le T rules (j + 1) t l in
      elim (cases_eq t v.thread) [
        | inl same ↦
            let yes : (v.thread == t && is_release l v.op) ≡ true =
            ap (λ b. b && is_release l v.op) (eq-eqb v.thread t (sym same)) ∙ ap (is_release l) frees ∙ eq-eqb l l refl in
            let r : cond {A = ℕ} (v.thread == t && is_release l v.op) 1 0 ≡ 1 = ap (λ b. cond {A = ℕ} b 1 0) yes in
            let a : cond {A = ℕ} (v.thread == t && is_acquire l v.op) 1 0 ≡ 0 = ap (λ (o : Op). cond {A = ℕ} (v.thread == t && is_acquire l o) 1 0) frees ∙ none_of (v.thread == t) in
            let depth : hold_count (take j T) t l ≡ h.depth = held_is l t h is (same ∙ own.0) in
            let now : hold_count (take (j + 1) T) t l ≡ h.depth - 1 = omega (arith, a, r, le, depth, takes_more t l, frees_more t l) in
            now ∙ sym (ap (λ b. cond {A = ℕ} b (h.depth - 1) 0) (eq-eqb t v.thread same))
        | inr other ↦
            other_hold t l other ∙ held_not l t h is (λ z. other (z ∙ sym own.0)) ∙ sym (ap (λ b. cond {A = ℕ} b (h.depth - 1) 0) (ne_eqb t v.thread other))
      ]

  -- the tables
  module _ (locks : ℕ) (held : List Held) (are : AreHeld T j locks held) where
    pub held_read : (l : ℕ) (h : Held) → l < locks → h ≡ get_or held l h → IsHeld (take j T) l h
    held_read l h lt read = are.at l h (slice_get_read held locks l h (sym are.len) lt read)

    pub held_set : (l : ℕ) (h : Held) → l < locks → IsHeld (take (j + 1) T) l h → ((i : ℕ) → i ≢ l → IsApartFrom i v.op) → AreHeld T (j + 1) locks (set held l h)
    held_set l h lt is apart = record {
      len = length-set held l h ∙ are.len;
      at = λ i g found.
          elim (slice_get-set held l i h g (omega (arith, lt, are.len)) found) [
            | inl here ↦ subst (λ (z : Held). IsHeld (take (j + 1) T) i z) here.1 (subst (λ (q : ℕ). IsHeld (take (j + 1) T) q h) (sym here.0) is)
            | inr there ↦ λ t. same_hold t i (apart i there.0).0 (apart i there.0).1 ∙ are.at i g there.1 t
          ];
    }

    pub held_same : ((l : ℕ) → IsApartFrom l v.op) → AreHeld T (j + 1) locks held
    held_same apart = record {
      len = are.len;
      at = λ i g found t. same_hold t i (apart i).0 (apart i).1 ∙ are.at i g found t;
    }
