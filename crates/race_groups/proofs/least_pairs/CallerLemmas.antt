-- What callers know of the pairs that are found.
use Rattle.std.proofs.Common.{◌≡◌, ◌⊎◌, ℕ, ◌<◌, ◌≤◌, List, length, take, All, Any, Some, None, get_or, option_map, slice_index_or, sym, ap, ◌∙◌, subst, arith, inl, inr}
use Rattle.std.proofs.lemmas.Bool.{cases_lt}
use Rattle.std.proofs.lemmas.List.{get_or_default, get_or-take, length-take}
use Rattle.std.proofs.lemmas.List.Elements.{All-take}
use Rattle.rapid_text.specs.Recording.{Recording}
use Rattle.rapid_text.specs.declared.event.Event.{Event}
use Rattle.event_index.specs.Events.{passes_by}
use Rattle.event_index.specs.Relations.{IsConflicting, is_access}
use Rattle.race_groups.specs.least_pairs.Order.{IsAhead, IsUpTo}
use Rattle.race_groups.specs.least_pairs.Pairs.{AreFirstTries, IsLeastPair, IsOf, IsOpenOf}
use Rattle.race_groups.specs.declared.least_pairs.tries.Between.{Between}
use Rattle.race_groups.specs.declared.least_pairs.tries.Try.{Try}
use Rattle.race_groups.specs.declared.least_pairs.wanted.Wanted.TheVariants.{Open}

pub ahead_up : (p q s : ℕ × ℕ) → IsAhead p q → IsUpTo q s → IsUpTo p s
ahead_up p q s (inl lt) (inl lt') = inl (omega (arith, lt, lt'))
ahead_up p q s (inl lt) (inr (same', le')) = inl (omega (arith, lt, same'))
ahead_up p q s (inr (same, lt)) (inl lt') = inl (omega (arith, same, lt'))
ahead_up p q s (inr (same, lt)) (inr (same', le')) = inr (omega (arith, same, same'), omega (arith, lt, le'))

-- each conflicting pair is of a variable and of two threads
pub between_of : (T : List Event) (a b : ℕ) → IsConflicting T a b → (of : Between) × IsOf T of a b
between_of T a b c = (
  record { variable = c.clash.variable; earlier = c.v.thread; later = c.w.thread },
  record {
    variable = ap (passes_by (λ v. is_access c.clash.variable v.op)) c.first ∙ c.clash.first;
    earlier = ap (option_map (λ v. v.thread)) c.first;
    later = ap (option_map (λ v. v.thread)) c.second;
  },
)

-- the pairs that are tried
module _ (r : Recording) (place : ℕ → ℕ) (places : ℕ × ℕ) (most : ℕ) (ts : List Try) (is : AreFirstTries r place places most ts) where
  -- none before one of these stands behind what that one does not
  all_up : (k at : ℕ) (t : Try) (p : ℕ × ℕ) → k ≤ at → at < length ts → slice_index_or ts at t ≡ t → IsUpTo t.pair p → All (λ (u : Try). IsUpTo u.pair p) (take k ts)
  all_up k at t p le lt here up i d low =
      let size = length-take k ts in
      let below : i < k = omega (arith, low, size) in
      let same : get_or (take k ts) i d ≡ get_or ts i d = get_or-take k ts i d below in
      let there : get_or ts at d ≡ t = get_or_default ts at d t lt ∙ here in
      let ahead : IsAhead (get_or ts i d).pair t.pair =
      subst (λ (u : Try). IsAhead (get_or ts i d).pair u.pair) there (is.rising i at d (omega (arith, below, le)) lt) in
      subst (λ (u : Try). IsUpTo u.pair p) (sym same) (ahead_up (get_or ts i d).pair t.pair p ahead up)

  taken_first :
      (k : ℕ) → k ≤ most → (of : Between) (a b : ℕ) → IsOpenOf r place places of a b
      → Any (λ (t : Try). t.between ≡ of) (take k ts) ⊎ ((length (take k ts) ≡ k) × All (λ (t : Try). IsUpTo t.pair (b, a)) (take k ts))
  taken_first k le of a b opens =
      let size = length-take k ts in
      elim (is.first of a b opens) [
        | inl (at, t, lt, here, same) ↦ elim (cases_lt at k) [
          | inl low ↦ inl (at, t, omega (arith, low, lt, size), get_or-take k ts at t low ∙ here, same)
          | inr high ↦
              let fits : IsOpenOf r place places t.between a b = subst (λ (o : Between). IsOpenOf r place places o a b) (sym same) opens in
              let up : IsUpTo t.pair (b, a) =
              subst (λ (u : Try). IsUpTo u.pair (b, a)) here
              (is.least at t lt a b (subst (λ (u : Try). IsOpenOf r place places u.between a b) (sym here) fits)) in
              inr (omega (arith, high, lt, size), all_up k at t (b, a) high lt here up)
        ]
        | inr (full, all) ↦ inr (omega (arith, full, le, size), All-take (λ (t : Try). IsUpTo t.pair (b, a)) k ts all)
      ]

  -- the first of them are the first of fewer
  pub take_tries : (k : ℕ) → k ≤ most → AreFirstTries r place places k (take k ts)
  take_tries k le =
      let size = length-take k ts in
      record {
        each = All-take (λ (t : Try). IsOpenOf r place places t.between t.pair.1 t.pair.0) k ts is.each;
        least = All-take (λ (t : Try). (a b : ℕ) → IsOpenOf r place places t.between a b → IsUpTo t.pair (b, a)) k ts is.least;
        rising = λ i j d lt low.
            let first : get_or (take k ts) i d ≡ get_or ts i d = get_or-take k ts i d (omega (arith, lt, low, size)) in
            let second : get_or (take k ts) j d ≡ get_or ts j d = get_or-take k ts j d (omega (arith, low, size)) in
            subst (λ (t : Try). IsAhead t.pair (get_or (take k ts) j d).pair) (sym first)
            (subst (λ (t : Try). IsAhead (get_or ts i d).pair t.pair) (sym second) (is.rising i j d lt (omega (arith, low, size))));
        few = omega (arith, size);
        first = taken_first k le;
      }

  first_up : (d : Try) (p : ℕ × ℕ) (of : Between) → IsOpenOf r place places of p.1 p.0 → 0 < most → 0 < length ts → IsUpTo (slice_index_or ts 0 d).pair p
  first_up d p of opens some there =
      elim (is.first of p.1 p.0 opens) [
        | inl (at, t, lt, here, same) ↦
            let fits : IsOpenOf r place places t.between p.1 p.0 = subst (λ (o : Between). IsOpenOf r place places o p.1 p.0) (sym same) opens in
            let up : IsUpTo t.pair p =
            subst (λ (u : Try). IsUpTo u.pair p) here
            (is.least at t lt p.1 p.0 (subst (λ (u : Try). IsOpenOf r place places u.between p.1 p.0) (sym here) fits)) in
            elim (cases_lt 0 at) [
              | inl later ↦
                  let known : get_or ts at d ≡ t = get_or_default ts at d t lt ∙ here in
                  ahead_up (get_or ts 0 d).pair t.pair p (subst (λ (u : Try). IsAhead (get_or ts 0 d).pair u.pair) known (is.rising 0 at d later lt)) up
              | inr now ↦
                  let zero_is : at ≡ 0 = omega (arith, now) in
                  let known : get_or ts 0 d ≡ t = get_or_default ts 0 d t there ∙ ap (λ (i : ℕ). get_or ts i t) (sym zero_is) ∙ here in
                  subst (λ (u : Try). IsUpTo u.pair p) (sym known) up
            ]
        | inr (full, all) ↦ all 0 d there
      ]

  -- the first of them is the least open pair
  pub first_is_least : (d : Try) → 0 < most → 0 < length ts → IsLeastPair r place places Open (Some (slice_index_or ts 0 d).pair)
  first_is_least d some there = (
    (is.each 0 d there).fit,
    λ a b fit.
        let found = between_of r.events a b fit.pair.conflict in
        first_up d (b, a) found.0 (record { fit = fit; of_these = found.1 }) some there,
  )

  -- where there are none, no pair is open
  pub none_to_try : 0 < most → length ts ≡ 0 → IsLeastPair r place places Open None
  none_to_try some none a b fit =
      let found = between_of r.events a b fit.pair.conflict in
      elim (is.first found.0 a b (record { fit = fit; of_these = found.1 })) [
        | inl (at, t, lt, here, same) ↦ absurd (omega (arith, lt, none))
        | inr (full, all) ↦ absurd (omega (arith, full, none, some))
      ]
