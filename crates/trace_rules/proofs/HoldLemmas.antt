-- What a table's hold says of the events so far, and how it goes on.
use Rattle.std.proofs.Common.{nat_eq, ◌≡◌, ◌≢◌, ℕ, ◌+◌, ◌-◌, ◌<◌, ◌≤◌, ◌==◌, true, false, ◌&&◌, cond, List, [], ◌∷◌, ◌++◌, length, Option, Some, None, refl, sym, ap, ◌∙◌, subst, arith, eq-eqb, ne_eqb, eqb-true, inl, inr}
use Rattle.std.specs.Option.{option_eq}
use Rattle.std.proofs.lemmas.Bool.Decides.{nat_tests}
use Rattle.std.proofs.lemmas.Bool.{cases_eq, cases_lt, true≢false, eqb-false}
use Rattle.std.proofs.lemmas.Option.{none-some}
use Rattle.std.proofs.lemmas.List.Sums.{count_by-le-length}
use Rattle.rapid_text.specs.Operations.{is_acquire, is_release}
use Rattle.rapid_text.specs.declared.event.Event.{Event}
use Rattle.rapid_text.specs.declared.event.Op.TheVariants.{Acquire, Release}
use Rattle.trace_rules.specs.Rules.{acquire_count, release_count, hold_count, breach_of_op}
use Rattle.trace_rules.specs.Tables.{depth_for, IsDepthOf, IsHoldOf, IsOpenFor}
use Rattle.trace_rules.specs.declared.hold.Hold.{Hold}
use Rattle.trace_rules.specs.declared.refusal.RuleCause.TheVariants.{ReleaseNotHeld, AcquireHeld}
use Rattle.trace_rules.proofs.Counts.{is_held_by_another-false, is_held_by_another-true, count_yes, count_no}

-- an owner's holds are the depth
pub depth_for-owner : (owner depth : ℕ) → depth_for (Some owner) depth owner ≡ depth
depth_for-owner owner depth = grind (arith, nat_tests)

-- nobody but the owner has a hold
pub depth_for-other : (owner : Option ℕ) (depth t : ℕ) → IsOpenFor t owner → (u : ℕ) → u ≢ t → depth_for owner depth u ≡ 0
depth_for-other None depth t free u other = refl
depth_for-other (Some owner) depth t free u other = grind (arith, nat_tests)

-- one more acquire
pub depth_for-taken : (owner : Option ℕ) (depth th t : ℕ) → IsOpenFor th owner → IsDepthOf owner depth
    → depth_for (Some th) (depth + 1) t ≡ depth_for owner depth t + cond (th == t) 1 0
depth_for-taken None depth th t free is = grind (arith, nat_tests)
depth_for-taken (Some owner) depth th t free is = grind (arith, nat_tests)

-- one more release, of several
pub depth_for-let_go : (depth th t : ℕ) → 0 < depth → depth_for (Some th) depth t ≡ depth_for (Some th) (depth - 1) t + cond (th == t) 1 0
depth_for-let_go depth th t above = grind (arith, nat_tests)

module _ (es : List Event) (l : ℕ) (e : Event) (h : Hold) (is : IsHoldOf es l h) where
  -- after an acquire by its owner, or of a free lock
  pub IsHoldOf-acquire : e.op ≡ Acquire l → IsOpenFor e.thread h.owner → IsHoldOf (es ++ e ∷ []) l (record { owner = Some e.thread; depth = h.depth + 1 })
  IsHoldOf-acquire op free =
      record {
        counts = λ t.
            let takes = count_yes (is_acquire l) es e t (ap (is_acquire l) op ∙ eq-eqb l l refl) in
            let frees = count_no (is_release l) es e t (ap (is_release l) op) in
            omega (arith, takes, frees, is.counts t, depth_for-taken h.owner h.depth e.thread t free is.depth);
        depth = omega arith;
      }

  module _ (op : e.op ≡ Release l) (owned : h.owner ≡ Some e.thread) where
    released : (t : ℕ) → release_count (es ++ e ∷ []) t l ≡ release_count es t l + cond (e.thread == t) 1 0
    released t = count_yes (is_release l) es e t (ap (is_release l) op ∙ eq-eqb l l refl)

    counts : (t : ℕ) → acquire_count (es ++ e ∷ []) t l ≡ release_count es t l + depth_for (Some e.thread) h.depth t
    counts t = count_no (is_acquire l) es e t (ap (is_acquire l) op) ∙ is.counts t ∙ ap (λ o. release_count es t l + depth_for o h.depth t) owned

    -- after a release that is not the last one
    pub IsHoldOf-release : 1 < h.depth → IsHoldOf (es ++ e ∷ []) l (record { owner = Some e.thread; depth = h.depth - 1 })
    IsHoldOf-release deep = record { counts = λ t. omega (arith, counts t, released t, depth_for-let_go h.depth e.thread t (omega arith)); depth = omega arith }

    -- after the last release
    pub IsHoldOf-last : (free : Hold) → h.depth ≡ 1 → IsHoldOf [] l free → IsHoldOf (es ++ e ∷ []) l free
    IsHoldOf-last free last none =
        record {
          counts = λ t.
              let one : depth_for (Some e.thread) h.depth t ≡ cond (e.thread == t) 1 0 = rw last (grind (arith, nat_tests)) in
              omega (arith, counts t, released t, one, none.counts t);
          depth = none.depth;
        }

  -- after an event that is no operation on the lock
  pub IsHoldOf-other : is_acquire l e.op ≡ false → is_release l e.op ≡ false → IsHoldOf (es ++ e ∷ []) l h
  IsHoldOf-other no_acquire no_release =
      record {
        counts = λ t. omega (arith, count_no (is_acquire l) es e t no_acquire, count_no (is_release l) es e t no_release, is.counts t);
        depth = is.depth;
      }

-- who has a hold is the owner
pub owner-from_depth : (owner : Option ℕ) (depth t : ℕ) → 0 < depth_for owner depth t → owner ≡ Some t
owner-from_depth None depth t above = absurd (omega arith)
owner-from_depth (Some u) depth t above =
    elim (cases_eq u t) [
      | inl same ↦ ap Some same
      | inr other ↦ absurd (omega (arith, above, depth_for-other (Some u) depth u refl t (λ is. other (sym is))))
    ]

-- an owner's depth is above 0
pub depth-above : (owner : Option ℕ) (depth u : ℕ) → IsDepthOf owner depth → owner ≡ Some u → 0 < depth
depth-above None depth u is same = absurd (none-some u same)
depth-above (Some owner) depth u is same = is

-- a lock is held no deeper than there were events
pub depth-le : (es : List Event) (l : ℕ) (h : Hold) → IsHoldOf es l h → (owner : Option ℕ) → h.owner ≡ owner → h.depth ≤ length es
depth-le es l h is None same =
    let nothing : h.depth ≡ 0 = subst (λ o. IsDepthOf o h.depth) same is.depth in
    omega arith
depth-le es l h is (Some owner) same =
    let depth : depth_for h.owner h.depth owner ≡ h.depth = ap (λ o. depth_for o h.depth owner) same ∙ depth_for-owner owner h.depth in
    omega (arith, is.counts owner, depth, count_by-le-length (λ e. e.thread == owner && is_acquire l e.op) es)

module _ (es : List Event) (l : ℕ) (h : Hold) (is : IsHoldOf es l h) (t : ℕ) where
  -- an acquire breaks no rule where the lock is free or the thread's own
  pub acquire_kept : IsOpenFor t h.owner → breach_of_op es t (Acquire l) ≡ None
  acquire_kept free =
      ap (λ b. cond b (Some AcquireHeld) None)
      (is_held_by_another-false es t l (λ u other. omega (arith, is.counts u, depth_for-other h.owner h.depth t free u other)))

  -- it breaks one where another thread holds the lock
  pub acquire_held : (u : ℕ) → h.owner ≡ Some u → u ≢ t → breach_of_op es t (Acquire l) ≡ Some AcquireHeld
  acquire_held u owned other =
      let depth : depth_for h.owner h.depth u ≡ h.depth = ap (λ o. depth_for o h.depth u) owned ∙ depth_for-owner u h.depth in
      let above : 0 < h.depth = depth-above h.owner h.depth u is.depth owned in
      let held : 0 < hold_count es u l = omega (arith, is.counts u) in
      ap (λ b. cond b (Some AcquireHeld) None) (is_held_by_another-true es t l u other held)

  -- a release breaks no rule where the thread holds the lock
  pub breach_of_op-release : h.owner ≡ Some t → breach_of_op es t (Release l) ≡ None
  breach_of_op-release owned =
      let depth : depth_for h.owner h.depth t ≡ h.depth = ap (λ o. depth_for o h.depth t) owned ∙ depth_for-owner t h.depth in
      let above : 0 < h.depth = depth-above h.owner h.depth t is.depth owned in
      ap (λ b. cond b (Some ReleaseNotHeld) None) (ne_eqb (hold_count es t l) 0 (λ none. omega (arith, is.counts t)))

  -- it breaks one where another thread holds the lock, or none
  pub breach_of_op-release_other : depth_for h.owner h.depth t ≡ 0 → breach_of_op es t (Release l) ≡ Some ReleaseNotHeld
  breach_of_op-release_other none = ap (λ b. cond b (Some ReleaseNotHeld) None) (eq-eqb (hold_count es t l) 0 (omega (arith, is.counts t, none)))

  -- where an acquire breaks no rule, the lock is free or the thread's own
  pub IsOpenFor-from_none : (owner : Option ℕ) → h.owner ≡ owner → breach_of_op es t (Acquire l) ≡ None → IsOpenFor t owner
  IsOpenFor-from_none None same kept = tt
  IsOpenFor-from_none (Some u) same kept =
      elim (cases_eq u t) [
        | inl mine ↦ mine
        | inr other ↦ absurd (none-some AcquireHeld (sym kept ∙ acquire_held u same other))
      ]

  -- where a release breaks no rule, the lock is the thread's own
  pub owner-from_none : breach_of_op es t (Release l) ≡ None → h.owner ≡ Some t
  owner-from_none kept =
      elim (cases_lt 0 (depth_for h.owner h.depth t)) [
        | inl above ↦ owner-from_depth h.owner h.depth t above
        | inr none ↦ absurd (none-some ReleaseNotHeld (sym kept ∙ breach_of_op-release_other (omega (arith, none))))
      ]

-- what the test says that the owner is the thread t
pub owner-from_test : (owner : Option ℕ) (t : ℕ) → option_eq nat_eq owner (Some t) ≡ true → owner ≡ Some t
owner-from_test None t is = absurd (true≢false (sym is))
owner-from_test (Some u) t is = ap Some (eqb-true u t is)

pub depth_for-from_test : (owner : Option ℕ) (depth t : ℕ) → option_eq nat_eq owner (Some t) ≡ false → depth_for owner depth t ≡ 0
depth_for-from_test None depth t is = refl
depth_for-from_test (Some u) depth t is = depth_for-other (Some u) depth u refl t (λ same. eqb-false u t is (sym same))
