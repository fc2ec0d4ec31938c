-- Each step on the channel of answers keeps the rule that all answers are of one trace.
use Rattle.std.proofs.Common.{◌≡◌, ◌≢◌, ℕ, zero, suc, ◌⊎◌, List, [], ◌∷◌, ◌++◌, set, Option, Some, None, sym, refl, ap, ◌∙◌, subst, inl, inr, ⊎_elim}
use Rattle.std.proofs.lemmas.Option.{none-some, same_Some}
use Rattle.crossbeam_channel.specs.Fifo.{Pushes, Pops, Forks}
use Rattle.atomic_table.proofs.Lists.{at_set, at_snoc}
use Rattle.rapid_text.specs.Recording.{Recording}
use Rattle.search_pool.specs.Outcomes.{Answered}
use Rattle.search_pool.specs.Passes.{AllOf, AllKnow, OfOne}
use mathlib.Core.Option.{some, some-ne-none, some-injective}
use lib.ListN.{get_elem?}

-- a list of one view has one place
only_here : (pass : ℕ) (v w : Option Recording) → get_elem? (w ∷ []) pass ≡ some v → (w ≡ v) × (pass ≡ 0)
only_here zero v w e = (some-injective w v e, refl)
only_here (suc pass) v w e = absurd (some-ne-none v (sym e))

AllOf-snoc : (t : Recording) (answers : List Answered) (x : Answered) → AllOf t answers → x.trace ≡ t → AllOf t (answers ++ x ∷ [])
AllOf-snoc t answers x all is place y e =
    ⊎_elim (λ s. all place y s) (λ (s : x ≡ y). ap (λ (z : Answered). z.trace) (sym s) ∙ is) (at_snoc answers x y place e)

AllKnow-set : (t : Recording) (views : List (Option Recording)) (pass : ℕ) → AllKnow t views → AllKnow t (set views pass (Some t))
AllKnow-set t views pass all port v e =
    ⊎_elim (λ (s : (port ≡ pass) × (Some t ≡ v)). sym s.1) (λ (s : (port ≢ pass) × (get_elem? views port ≡ some v)). all port v s.1)
    (at_set views pass port (Some t) v e)

AllKnow-snoc : (t : Recording) (views : List (Option Recording)) → AllKnow t views → AllKnow t (views ++ Some t ∷ [])
AllKnow-snoc t views all port v e = ⊎_elim (λ s. all port v s) (λ (s : Some t ≡ v). sym s) (at_snoc views (Some t) v port e)

module _ (views : List (Option Recording)) (pass : ℕ) (v : Option Recording) (at : get_elem? views pass ≡ some v) where
  -- where one view is all there is, it is this pass's
  alone : views ≡ None ∷ [] → (None ≡ v) × (pass ≡ 0)
  alone one = only_here pass v None (subst (λ vs. get_elem? vs pass ≡ some v) one at)

  AllKnow-named : (t : Recording) → views ≡ None ∷ [] → AllKnow t (set views pass (Some t))
  AllKnow-named t one port u e =
      ⊎_elim (λ (s : (port ≡ pass) × (Some t ≡ u)). sym s.1)
      (λ (s : (port ≢ pass) × (get_elem? views port ≡ some u)).
      absurd (s.0 ((only_here port u None (subst (λ vs. get_elem? vs port ≡ some u) one s.1)).1 ∙ sym (alone one).1)))
      (at_set views pass port (Some t) u e)

  -- where this pass knows a trace, all is of that one
  all_is_of : (answers : List Answered) → OfOne answers views → (t : Recording) → v ≡ Some t → AllOf t answers × AllKnow t views
  all_is_of answers h t is =
      ⊎_elim
      (λ (s : (answers ≡ []) × (views ≡ None ∷ [])). absurd (none-some t ((alone s.1).0 ∙ is)))
      (λ (s : (u : Recording) × AllOf u answers × AllKnow u views).
      subst (λ (w : Recording). AllOf w answers × AllKnow w views) (same_Some s.0 t (sym (s.2 pass v at) ∙ is)) (s.1, s.2))
      h

-- at the start there is one pass, which knows none
pub begins : OfOne [] (None ∷ [])
begins = inl (refl, refl)

-- it is told a trace
pub names : (pass : ℕ) (v : Option Recording) (t : Recording) → v ≡ None → Forks OfOne pass v (Some t) (Some t)
names pass v t none answers views h at =
    ⊎_elim
    (λ (s : (answers ≡ []) × (views ≡ None ∷ [])).
    inr (
      t,
      (λ place x e. absurd (some-ne-none x (sym e ∙ ap (λ l. get_elem? l place) s.0))),
      AllKnow-snoc t (set views pass (Some t)) (AllKnow-named views pass v at t s.1),
    ))
    (λ (s : (u : Recording) × AllOf u answers × AllKnow u views). absurd (none-some s.0 (sym none ∙ s.2 pass v at)))
    h

-- one pass more
pub forks : (pass : ℕ) (v : Option Recording) (t : Recording) → v ≡ Some t → Forks OfOne pass v v v
forks pass v t is answers views h at =
    let all = all_is_of views pass v at answers h t is in
    inr (
      t,
      all.0,
      subst (λ (u : Option Recording). AllKnow t (set views pass u ++ u ∷ [])) (sym is)
          (AllKnow-snoc t (set views pass (Some t)) (AllKnow-set t views pass all.1)),
    )

-- one answer more
pub sends : (n pass : ℕ) (v : Option Recording) (x : Answered) → v ≡ Some x.trace → Pushes OfOne n pass v x (λ w. w ≡ v)
sends n pass v x is answers views room h at =
    let all = all_is_of views pass v at answers h x.trace is in (
      v,
      inr (
        x.trace,
        AllOf-snoc x.trace answers x all.0 refl,
        subst (λ (u : Option Recording). AllKnow x.trace (set views pass u)) (sym is) (AllKnow-set x.trace views pass all.1),
      ),
      refl,
    )

-- one answer less
pub takes : (pass : ℕ) (v : Option Recording) (t : Recording) → v ≡ Some t → Pops OfOne pass v (λ x w. (w ≡ v) × (v ≡ Some x.trace))
takes pass v t is x answers views h at =
    let all = all_is_of views pass v at (x ∷ answers) h t is in (
      v,
      inr (
        t,
        (λ place y e. all.0 (suc place) y e),
        subst (λ (u : Option Recording). AllKnow t (set views pass u)) (sym is) (AllKnow-set t views pass all.1),
      ),
      (refl, is ∙ ap Some (sym (all.0 zero x refl))),
    )
