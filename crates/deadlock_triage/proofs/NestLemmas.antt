-- How far the sections of each thread reach, and which requests are nested.
use Rattle.std.proofs.Common.{◌≡◌, ◌≢◌, ◌⊎◌, ℕ, ◌+◌, ◌<◌, ◌≤◌, List, [], ◌∷◌, ◌++◌, AllPairs, Contains, length, set, get_or, take, Option, Some, None, refl, sym, ap, ◌∙◌, subst, arith, inl, inr, get_or-set_same, get_or-set_other}
use Rattle.std.proofs.lemmas.Bool.{cases_eq, cases_lt}
use Rattle.std.proofs.lemmas.List.{length-set}
use Rattle.std.proofs.lemmas.List.Elements.{Contains-append_left, Contains-get_or, Contains-push}
use Rattle.std.proofs.lemmas.List.Quantifiers.{all_pairs_push}
use Rattle.std.proofs.lemmas.Option.{same_Some, slice_get_within}
use Rattle.rapid_text.specs.Recording.{Recording}
use Rattle.rapid_text.specs.declared.event.Op.TheVariants.{Acquire, Release}
use Rattle.trace_rules.specs.Rules.{IsDisciplined, hold_count}
use Rattle.event_index.specs.Events.{op_at, thread_at}
use Rattle.event_index.specs.Lookups.{section_end}
use Rattle.event_index.proofs.CallerLemmas.{op_event}
use Rattle.must_order.specs.MustBefore.{IsHeldBefore}
use Rattle.must_order.specs.Sections.{IsOpenAt}
use Rattle.must_order.proofs.CallerLemmas.{held_since, section-since, section-open, section_end-is}
use Rattle.deadlock_triage.specs.Nesting.{AreNestedBelow, IsAcquireOf, IsReach}
use Rattle.deadlock_triage.specs.Requests.{AreNested, IsNested, IsRequest}
use Rattle.deadlock_triage.proofs.ListLemmas.{Contains-at, at-Contains, get_either}

module _ (r : Recording) where
  pub reach-start : (reach : List ℕ) → length reach ≡ length r.threads → ((t : ℕ) → get_or reach t 0 ≡ 0) → IsReach r 0 reach
  reach-start reach len zeros = record {
    len = len;
    far = λ t p l e a. absurd (omega (arith, a.early));
    open_ended = λ t p l a. absurd (omega (arith, a.early));
    begun = λ t some. absurd (omega (arith, some, zeros t));
  }

  -- an acquire of the first n + 1 events is one of the first n, or event n
  acquire_cases : (n t p l : ℕ) → IsAcquireOf r (n + 1) t p l → IsAcquireOf r n t p l ⊎ (p ≡ n)
  acquire_cases n t p l a =
      elim (cases_lt p n) [
        | inl low ↦ inl (record { early = low; acquires = a.acquires; of = a.of })
        | inr high ↦ inr (omega (arith, a.early))
      ]

  module _ (n : ℕ) (reach : List ℕ) (is : IsReach r n reach) where
    later : (t p l : ℕ) → IsAcquireOf r n t p l → IsAcquireOf r (n + 1) t p l
    later t p l a = record { early = omega (arith, a.early); acquires = a.acquires; of = a.of }

    pub reach-same : ((l : ℕ) → op_at r.events n ≢ Some (Acquire l)) → IsReach r (n + 1) reach
    reach-same none =
        let not_here : (t p l : ℕ) → IsAcquireOf r (n + 1) t p l → p ≡ n → ⊥ = λ t p l a here. none l (ap (op_at r.events) (sym here) ∙ a.acquires) in
        record {
          len = is.len;
          far = λ t p l e a ends.
              elim (acquire_cases n t p l a) [ inl old ↦ is.far t p l e old ends | inr here ↦ absurd (not_here t p l a here) ];
          open_ended = λ t p l a never.
              elim (acquire_cases n t p l a) [ inl old ↦ is.open_ended t p l old never | inr here ↦ absurd (not_here t p l a here) ];
          begun = λ t some. let b = is.begun t some in (b.0, b.1, later t b.0 b.1 b.2, b.3);
        }

    -- event n is an acquire of thread u, whose section reaches this far
    module _ (u l : ℕ) (acquires : op_at r.events n ≡ Some (Acquire l)) (of : thread_at r.events n ≡ Some u) (within : u < length reach) (end most : ℕ) (from : get_or reach u 0 ≤ most) (to : end ≤ most) (either : (most ≡ get_or reach u 0) ⊎ (most ≡ end)) (ends : (e : ℕ) → section_end r.events n ≡ Some e → end ≡ e) (never : section_end r.events n ≡ None → end ≡ length r.events) where
      abbrev longer : List ℕ
      longer = set reach u most

      here : get_or longer u 0 ≡ most
      here = get_or-set_same reach u most 0 within

      there : (t : ℕ) → t ≢ u → get_or longer t 0 ≡ get_or reach t 0
      there t other = get_or-set_other reach u t most 0 other

      grows : (t : ℕ) → get_or reach t 0 ≤ get_or longer t 0
      grows t =
          elim (cases_eq t u) [
            | inl same ↦
                let now : get_or longer t 0 ≡ most = ap (λ k. get_or longer k 0) same ∙ here in
                let was : get_or reach t 0 ≡ get_or reach u 0 = ap (λ k. get_or reach k 0) same in
                omega (arith, now, was)
            | inr other ↦ omega (arith, there t other)
          ]

      mine : (t p k : ℕ) → IsAcquireOf r (n + 1) t p k → p ≡ n → t ≡ u
      mine t p k a at = same_Some t u (sym a.of ∙ ap (thread_at r.events) at ∙ of)

      reaches : (t : ℕ) → t ≡ u → end ≤ get_or longer t 0
      reaches t same =
          let now : get_or longer t 0 ≡ most = ap (λ k. get_or longer k 0) same ∙ here in
          omega (arith, now)

      begun_here : 0 < get_or longer u 0
          → (p : ℕ) × (k : ℕ) × IsAcquireOf r (n + 1) u p k × ((e : ℕ) → section_end r.events p ≡ Some e → get_or longer u 0 ≤ e)
      begun_here some =
          elim either [
            | inl old ↦
                let b = is.begun u (omega (arith, some, here, old)) in (
                  b.0,
                  b.1,
                  later u b.0 b.1 b.2,
                  λ e at. let le = b.3 e at in omega (arith, le, here, old),
                )
            | inr new ↦ (
              n,
              l,
              record { early = omega arith; acquires = acquires; of = of },
              λ e at. let is_end = ends e at in omega (arith, is_end, here, new),
            )
          ]

      pub reach-more : IsReach r (n + 1) longer
      reach-more = record {
        len = length-set reach u most ∙ is.len;
        far = λ t p k e a at.
            elim (acquire_cases n t p k a) [
              | inl old ↦ let le = is.far t p k e old at in omega (arith, le, grows t)
              | inr same ↦
                  let is_end : end ≡ e = ends e (ap (section_end r.events) (sym same) ∙ at) in
                  omega (arith, is_end, reaches t (mine t p k a same))
            ];
        open_ended = λ t p k a at.
            elim (acquire_cases n t p k a) [
              | inl old ↦ let le = is.open_ended t p k old at in omega (arith, le, grows t)
              | inr same ↦
                  let is_end : end ≡ length r.events = never (ap (section_end r.events) (sym same) ∙ at) in
                  omega (arith, is_end, reaches t (mine t p k a same))
            ];
        begun = λ t some.
            elim (cases_eq t u) [
              | inl same ↦
                  subst (λ (k : ℕ). (p : ℕ) × (m : ℕ) × IsAcquireOf r (n + 1) k p m × ((e : ℕ) → section_end r.events p ≡ Some e → get_or longer k 0 ≤ e)) (sym same)
                  (begun_here (subst (λ (k : ℕ). 0 < get_or longer k 0) same some))
              | inr other ↦
                  let b = is.begun t (omega (arith, some, there t other)) in (
                    b.0,
                    b.1,
                    later t b.0 b.1 b.2,
                    λ e at. let le = b.3 e at in omega (arith, le, there t other),
                  )
            ];
      }

    -- event n is a request of thread t
    module _ (rules : IsDisciplined r.events) (within : n < length r.events) (t : ℕ) (of : thread_at r.events n ≡ Some t) where
      beyond : (k p l : ℕ) (o : Option ℕ) → op_at r.events n ≡ Some (Acquire k) → IsAcquireOf r n t p l → section_end r.events p ≡ o → IsOpenAt r.events n p → n < get_or reach t 0
      beyond k p l None acquires a never is_open = let le = is.open_ended t p l a never in omega (arith, le, within)
      beyond k p l (Some e) acquires a ends is_open =
          let after : n ≤ e = is_open e ends in
          let far : e ≤ get_or reach t 0 = is.far t p l e a ends in
          elim (cases_lt n e) [
            | inl low ↦ omega (arith, low, far)
            | inr high ↦
                let same : e ≡ n = omega (arith, after) in
                let released = (section_end-is r.events p l t e a.acquires a.of ends).3 in
                let two : Some (Release l) ≡ Some (Acquire k) = sym released ∙ ap (op_at r.events) same ∙ acquires in
                cc
          ]

      pub nested-beyond : IsNested r n → n < get_or reach t 0
      nested-beyond is_nested =
          let q = is_nested.request in
          let l : ℕ = is_nested.other in
          let same : is_nested.holds.0 ≡ t = same_Some is_nested.holds.0 t (sym is_nested.holds.1 ∙ of) in
          let holds : 0 < hold_count (take n r.events) t l = subst (λ (k : ℕ). 0 < hold_count (take n r.events) k l) same is_nested.holds.2 in
          let since = held_since r.events rules n t l (omega (arith, within)) holds in
          let s = since.1 in
          beyond q.lock since.0 l (section_end r.events since.0) q.acquires (record { early = s.early; acquires = s.outer.acquires; of = s.outer.of }) refl
          (section-since r.events rules n t l since.0 s)

      pub beyond-nested : IsRequest r n → n < get_or reach t 0 → IsNested r n
      beyond-nested q far =
          let b = is.begun t (omega (arith, far)) in
          let a = b.2 in
          let holds : 0 < hold_count (take n r.events) t b.1 =
          section-open r.events rules b.0 b.1 t n a.acquires a.of (λ e at. let le = b.3 e at in omega (arith, le, far)) a.early (omega (arith, within)) in
          record { request = q; other = b.1; holds = (t, of, holds) }

-- a request is an event
pub request-within : (r : Recording) (e : ℕ) → IsRequest r e → e < length r.events
request-within r e q =
    let v = op_event r.events e (Acquire q.lock) q.acquires in
    slice_get_within r.events e v.0 v.1

-- the list of nested requests, one event after another
module _ (r : Recording) where
  pub nested-none : AreNestedBelow r 0 []
  nested-none = record {
    rising = λ i j d lt le. absurd (omega (arith, le));
    are = λ e (k, lt, at). absurd (omega (arith, lt));
    all = λ e lt. absurd (omega (arith, lt));
  }

  module _ (n : ℕ) (nested : List ℕ) (are : AreNestedBelow r n nested) where
    pub nested-no : ¬ IsNested r n → AreNestedBelow r (n + 1) nested
    nested-no none = record {
      rising = are.rising;
      are = λ e has. let is = are.are e has in (omega (arith, is.0), is.1);
      all = λ e lt is.
          elim (cases_lt e n) [
            | inl low ↦ are.all e low is
            | inr high ↦ let same : e ≡ n = omega arith in absurd (none (subst (IsNested r) same is))
          ];
    }

    pub nested-yes : IsNested r n → AreNestedBelow r (n + 1) (nested ++ n ∷ [])
    nested-yes there = record {
      rising = all_pairs_push ◌<◌ nested n are.rising (λ k d lt. (are.are (get_or nested k d) (Contains-get_or nested k d lt)).0);
      are = λ e has.
          let at = at-Contains (nested ++ n ∷ []) e has in
          elim (get_either nested n at.0 e at.1) [
            | inl old ↦ let is = are.are e (Contains-at nested at.0 e old) in (omega (arith, is.0), is.1)
            | inr last ↦ (omega (arith, last.1), subst (IsNested r) last.1 there)
          ];
      all = λ e lt is.
          elim (cases_lt e n) [
            | inl low ↦ Contains-append_left nested (n ∷ []) e (are.all e low is)
            | inr high ↦ let same : n ≡ e = omega arith in subst (Contains (nested ++ n ∷ [])) same (Contains-push nested n)
          ];
    }

  pub nested-all : (n : ℕ) (nested : List ℕ) → length r.events ≤ n → AreNestedBelow r n nested → AreNested r nested
  nested-all n nested past are = record {
    rising = are.rising;
    are = λ e has. (are.are e has).1;
    all = λ e is. let within = request-within r e is.request in are.all e (omega (arith, within, past)) is;
  }
