-- How far the sections reach that a thread has begun.
use Rattle.std.proofs.Common.{◌≡◌, ◌⊎◌, ℕ, ◌+◌, ◌-◌, ◌<◌, ◌≤◌, max, List, [], ◌∷◌, ◌++◌, length, get_or, Option, Some, None, slice_get, option_map, refl, sym, ap, ◌∙◌, subst, arith, inl, inr}
use Rattle.std.proofs.lemmas.Bool.{cases_eq, cases_lt}
use Rattle.std.proofs.lemmas.List.{length_push, get_or_push, get_or_append_left}
use Rattle.std.proofs.lemmas.Option.{same_Some, none-some, slice_get_within, slice_get-get_or, get_or_from_slice_get}
use Rattle.rapid_text.specs.declared.event.Event.{Event}
use Rattle.rapid_text.specs.declared.event.Op.{Op}
use Rattle.rapid_text.specs.declared.event.Op.TheVariants.{Acquire}
use Rattle.event_index.specs.Events.{thread_at}
use Rattle.event_index.specs.Lookups.{events_of, place_of, section_by, section_of, section_end}
use Rattle.event_index.proofs.CallerLemmas.{events_of-place, place_of-events_of, section_end-later, thread_here}
use Rattle.schedule.proofs.ThreadLemmas.{events_of-rises}
use Rattle.shb_clocks.proofs.PlaceLemmas.{le-from_place_of}
use Rattle.must_order.proofs.SectionLemmas.{section_end-is}
use Rattle.witness_search.specs.trace_order.Tables.{IsNextAfter, IsOwnEnd, IsReach, AreReachesUpTo}

-- only an acquire has a section
section_by-acquires : (T : List Event) (i e t d : ℕ) (op : Op) → section_by T i e t op ≡ Some d → (l : ℕ) × (op ≡ Acquire l)
section_by-acquires T i e t d (Acquire l) is = (l, refl)
section_by-acquires T i e t d op is = absurd (none-some d is)

section_acquires : (T : List Event) (e d : ℕ) (o : Option Event) → section_of T (length T) e o ≡ Some d → (l : ℕ) × (option_map (λ (v : Event). v.op) o ≡ Some (Acquire l))
section_acquires T e d None is = absurd (none-some d is)
section_acquires T e d (Some v) is = let found = section_by-acquires T (length T) e v.thread d v.op is in (found.0, ap Some found.1)

-- the end of a section is of its thread
pub end_thread : (T : List Event) (p k t : ℕ) → thread_at T p ≡ Some t → section_end T p ≡ Some k → thread_at T k ≡ Some t
end_thread T p k t of ends =
    let lock = section_acquires T p k (slice_get T p) ends in
    (section_end-is T p lock.0 t k lock.1 of ends).2

module _ (T : List Event) (e : ℕ) (v : Event) (found : slice_get T e ≡ Some v) (te : List ℕ) (are : te ≡ events_of T v.thread) (some : place_of T e ≡ 0 → ⊥) where
  place_low : place_of T e < length (events_of T v.thread)
  place_low = slice_get_within (events_of T v.thread) (place_of T e) e (events_of-place T e v found)

  pub bound_before : place_of T e - 1 < length te
  bound_before = omega (arith, place_low, ap length are)

  pub IsNextAfter-place : IsNextAfter T (get_or te (place_of T e - 1) 0) e
  IsNextAfter-place =
      let xs : List ℕ = events_of T v.thread in
      let k : ℕ = place_of T e - 1 in
      let q : ℕ = get_or xs k 0 in
      let low : k < length xs = omega (arith, place_low) in
      let at = place_of-events_of T v.thread k q (slice_get-get_or xs k 0 low) in
      let here : get_or xs (place_of T e) 0 ≡ e = get_or_from_slice_get xs (place_of T e) e 0 (events_of-place T e v found) in
      let up : get_or xs k 0 < get_or xs (place_of T e) 0 = events_of-rises T v.thread k (place_of T e) 0 (omega (arith, some)) place_low in
      subst (λ (ys : List ℕ). IsNextAfter T (get_or ys k 0) e) (sym are)
      (record { same = at.1 ∙ sym (thread_here T e v found); next = omega (arith, at.2, some); early = omega (arith, up, here) })

module _ (T : List Event) (e own t : ℕ) (of : thread_at T e ≡ Some t) (is : IsOwnEnd T e own) where
  own_late : e ≤ own
  own_late = elim is [ inl ends ↦ omega (arith, (section_end-later T e own ends).0) | inr none ↦ omega (arith, none.1) ]

  own_same : thread_at T own ≡ thread_at T e
  own_same = elim is [ inl ends ↦ end_thread T e own t of ends ∙ sym of | inr none ↦ ap (thread_at T) none.1 ]

  own_ends : (p k : ℕ) → p ≡ e → section_end T p ≡ Some k → k ≤ own
  own_ends p k one ends =
      elim is [
        | inl mine ↦ let same_end : own ≡ k = same_Some own k (sym mine ∙ ap (section_end T) (sym one) ∙ ends) in omega (arith, same_end)
        | inr none ↦ absurd (none-some k (sym none.0 ∙ ap (section_end T) (sym one) ∙ ends))
      ]

  own_from : (own ≡ e) ⊎ ((p : ℕ) × (thread_at T p ≡ thread_at T e) × (p ≤ e) × (section_end T p ≡ Some own))
  own_from = elim is [ inl ends ↦ inr (e, refl, omega arith, ends) | inr none ↦ inl none.1 ]

  pub IsReach-first : place_of T e ≡ 0 → IsReach T e own
  IsReach-first first = record {
    same = own_same;
    late = own_late;
    ends = λ p k mine low ends.
        let one : e ≤ p = le-from_place_of T e p t of (mine ∙ of) (omega (arith, first)) in
        own_ends p k (omega (arith, one, low)) ends;
    from = own_from;
  }

  module _ (q x r : ℕ) (after : IsNextAfter T q e) (reach : IsReach T q x) (greater : r ≡ max x own) where
    pub IsReach-next : IsReach T e r
    IsReach-next = record {
      same = elim (cases_lt x own) [
        | inl up ↦ let one : r ≡ own = omega (arith, greater, up) in ap (thread_at T) one ∙ own_same
        | inr down ↦ let one : r ≡ x = omega (arith, greater, down) in ap (thread_at T) one ∙ reach.same ∙ after.same
      ];
      late = omega (arith, greater, own_late);
      ends = λ p k mine low ends.
          elim (cases_eq p e) [
            | inl one ↦ omega (arith, own_ends p k one ends, greater)
            | inr other ↦
                let before_it : p ≤ q =
                elim (cases_lt q p) [
                  | inr le ↦ le
                  | inl lt ↦
                      elim (cases_lt (place_of T q) (place_of T p)) [
                        | inl up ↦ absurd (let back : e ≤ p = le-from_place_of T e p t of (mine ∙ of) (omega (arith, up, after.next)) in omega (arith, back, low, other))
                        | inr down ↦ le-from_place_of T p q t (mine ∙ of) (after.same ∙ of) down
                      ]
                ] in
                omega (arith, reach.ends p k (mine ∙ sym after.same) before_it ends, greater)
          ];
      from = elim (cases_lt x own) [
        | inl up ↦
            let one : own ≡ r = omega (arith, greater, up) in
            subst (λ (y : ℕ). (y ≡ e) ⊎ ((p : ℕ) × (thread_at T p ≡ thread_at T e) × (p ≤ e) × (section_end T p ≡ Some y))) one own_from
        | inr down ↦
            let one : x ≡ r = omega (arith, greater, down) in
            elim reach.from [
              | inl is_q ↦ absurd (omega (arith, own_late, is_q, down, after.early))
              | inr found ↦ inr (found.0, found.1 ∙ after.same, omega (arith, found.2, after.early), found.3 ∙ ap Some one)
            ]
      ];
    }

pub AreReaches-start : (T : List Event) (reach : List ℕ) → length reach ≡ 0 → AreReachesUpTo T 0 reach
AreReaches-start T reach none = record { len = none; of = λ e low. absurd (omega arith) }

pub AreReaches-push : (T : List Event) (n r : ℕ) (reach : List ℕ) → AreReachesUpTo T n reach → IsReach T n r → AreReachesUpTo T (n + 1) (reach ++ r ∷ [])
AreReaches-push T n r reach are is = record {
  len = length_push reach r ∙ ap (λ k. k + 1) are.len;
  of = λ e low.
      elim (cases_eq e n) [
        | inl one ↦ subst (λ (k : ℕ). IsReach T k (get_or (reach ++ r ∷ []) k 0)) (sym one) (subst (IsReach T n) (sym (get_or_push reach r 0 n (are.len))) is)
        | inr other ↦ subst (IsReach T e) (sym (get_or_append_left reach (r ∷ []) 0 e (omega (arith, low, other, are.len)))) (are.of e (omega (arith, low, other)))
      ];
}
