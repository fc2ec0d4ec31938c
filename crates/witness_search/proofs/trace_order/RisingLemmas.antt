-- A list in the order of the trace that is a correct reordering is closed.
use Rattle.std.proofs.Common.{◌≡◌, ℕ, ◌<◌, List, length, take, get_or, Contains, ◌∙◌, arith, inl, inr}
use Rattle.std.proofs.lemmas.Bool.{cases_lt}
use Rattle.std.proofs.lemmas.List.{get_or-take, get_or_default, length-take-le}
use Rattle.rapid_text.specs.declared.event.Event.{Event}
use Rattle.trace_rules.specs.Rules.{IsDisciplined}
use Rattle.schedule.specs.Reordering.{IsCorrectReordering}
use Rattle.schedule.proofs.CallerLemmas.{Allows-enabled}
use Rattle.must_order.specs.MustBefore.{Link, EndsFirst}
use Rattle.must_order.proofs.ListLemmas.{Contains-from_take}
use Rattle.must_order.proofs.MustLemmas.{Link-in, EndsFirst-in, reached}
use Rattle.witness_search.specs.trace_order.InOrder.{EndsBetween}
use Rattle.witness_search.specs.trace_order.Laws.{IsClosedIn, IsRising}

pub EndsFirst-between : (T : List Event) (p r e : ℕ) → EndsBetween T p r e → EndsFirst T p r e
EndsFirst-between T p r e s = record {
  lock = s.lock;
  owner = s.owner;
  thread = s.thread;
  acquires = s.first;
  of_owner = s.of_owner;
  ends = s.ends;
  of_thread = s.of_thread;
  other = s.other;
  inside = inr s.second;
}

-- a lesser member of a rising list stands before a greater one
stands_before : (P : List ℕ) → IsRising P → (p e j : ℕ) → p < e → j < length P → get_or P j e ≡ e → Contains P p → Contains (take j P) p
stands_before P rising p e j less within here (i, lt, at) =
    let long : length (take j P) ≡ j = length-take-le j P (omega arith) in
    let low : i < j =
    elim (cases_lt i j) [
      | inl before ↦ before
      | inr after ↦ elim (cases_lt j i) [
        | inl strictly ↦
            let up : get_or P j p < get_or P i p = rising j i p strictly lt in
            let same_here : get_or P j p ≡ get_or P j e = get_or_default P j p e within in
            absurd (omega (arith, up, same_here, here, at, less))
        | inr le ↦
            let one : i ≡ j = omega arith in
            let same_here : get_or P i p ≡ get_or P i e = get_or_default P i p e lt in
            let there : get_or P i e ≡ e = rw one here in
            absurd (omega (arith, same_here, there, at, less))
      ]
    ] in
    (i, omega (arith, long, low), get_or-take j P i p low ∙ at)

module _ (T : List Event) (rules : IsDisciplined T) (P : List ℕ) (rising : IsRising P) (is : IsCorrectReordering T P) where
  links_in : (d e : ℕ) → Link T d e → Contains P e → Contains P d
  links_in d e one has =
      let r = reached T P e is has in
      Contains-from_take P r.at d (Link-in T (take r.at P) r.before e (Allows-enabled T (take r.at P) e r.after) d one)

  sections_in : (p r e : ℕ) → EndsBetween T p r e → Contains P p → Contains P e → Contains P r
  sections_in p k e s has also =
      let r = reached T P e is also in
      Contains-from_take P r.at k
      (EndsFirst-in T (take r.at P) r.before e (Allows-enabled T (take r.at P) e r.after) rules p k (EndsFirst-between T p k e s)
      (stands_before P rising p e r.at s.earlier r.within r.here has))

  pub IsClosedIn-rising : IsClosedIn T (Contains P)
  IsClosedIn-rising = record { links = links_in; sections = sections_in }
