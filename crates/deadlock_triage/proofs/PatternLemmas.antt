-- Two requests have one pattern.
use Rattle.std.proofs.Common.{◌≡◌, ◌⊎◌, ℕ, ◌<◌, ◌≤◌, List, [], ◌∷◌, take, Some, refl, sym, ap, ◌∙◌, subst, arith, inl, inr}
use Rattle.std.proofs.lemmas.Bool.{cases_lt}
use Rattle.std.proofs.lemmas.Option.{same_Some}
use Rattle.rapid_text.specs.declared.event.Event.{Event}
use Rattle.trace_rules.specs.Rules.{hold_count}
use Rattle.must_order.specs.Held.{IsHeldFrom}
use Rattle.must_order.proofs.OwedLemmas.{acquired_lock}
use Rattle.lock_waits.specs.Waits.{IsCycle, WaitsFor}
use Rattle.deadlock_triage.specs.Patterns.{HasPattern, IsPart, IsPartBefore, locations_of}
use Rattle.deadlock_triage.specs.declared.patterns.Part.{Part}
use Rattle.deadlock_triage.specs.declared.patterns.Pattern.{Pattern}

-- a thread holds a lock since one acquire
module _ (T : List Event) (e l p q : ℕ) (one : IsHeldFrom T e l p) (two : IsHeldFrom T e l q) where
  one_thread : two.thread ≡ one.thread
  one_thread = same_Some two.thread one.thread (sym two.of ∙ one.of)

  pub since-one : p ≡ q
  since-one =
      elim (cases_lt p q) [
        | inl low ↦
            let held : 0 < hold_count (take q T) one.thread l = one.held q low (omega (arith, two.earlier)) in
            let free : hold_count (take q T) one.thread l ≡ 0 = subst (λ (t : ℕ). hold_count (take q T) t l ≡ 0) one_thread two.free in
            absurd (omega (arith, held, free))
        | inr high ↦ elim (cases_lt q p) [
          | inl low ↦
              let held : 0 < hold_count (take p T) two.thread l = two.held p low (omega (arith, one.earlier)) in
              let free : hold_count (take p T) two.thread l ≡ 0 = subst (λ (t : ℕ). hold_count (take p T) t l ≡ 0) (sym one_thread) one.free in
              absurd (omega (arith, held, free))
          | inr same ↦ omega arith
        ]
      ]

abbrev make_part : ℕ → ℕ → Part
make_part hold request = record { hold = hold; request = request }

part_same : (p q : Part) → p.hold ≡ q.hold → p.request ≡ q.request → p ≡ q
part_same p q hold request =
    let one : p ≡ make_part q.hold p.request = ap (λ (h : ℕ). make_part h p.request) hold in
    one ∙ ap (make_part q.hold) request

module _ (T : List Event) (place : ℕ → ℕ) where
  pub part-one : (e d : ℕ) (p q : Part) → IsPart T place e d p → IsPart T place e d q → p ≡ q
  part-one e d p q one two =
      let lock : two.lock ≡ one.lock = acquired_lock T d two.lock one.lock two.acquires one.acquires in
      let since : one.since ≡ two.since = since-one T e one.lock one.since two.since one.held (subst (λ (l : ℕ). IsHeldFrom T e l two.since) lock two.held) in
      part_same p q (one.hold ∙ ap place since ∙ sym two.hold) (one.request ∙ sym two.request)

-- if neither part is less, they are equal
pub parts_same : (p q : Part) → ¬ IsPartBefore p q → ¬ IsPartBefore q p → p ≡ q
parts_same p q not_less not_more =
    elim (cases_lt p.hold q.hold) [
      | inl low ↦ absurd (not_less (inl low))
      | inr le ↦ elim (cases_lt q.hold p.hold) [
        | inl high ↦ absurd (not_more (inl high))
        | inr ge ↦
            let hold : p.hold ≡ q.hold = omega arith in
            elim (cases_lt p.request q.request) [
              | inl low ↦ absurd (not_less (inr (hold, low)))
              | inr less ↦ elim (cases_lt q.request p.request) [
                | inl high ↦ absurd (not_more (inr (sym hold, high)))
                | inr more ↦ part_same p q hold (omega arith)
              ]
            ]
      ]
    ]

abbrev make_pattern : Part → Part → Pattern
make_pattern least other = record { least = least; other = other }

pattern_same : (p q : Pattern) → p.least ≡ q.least → p.other ≡ q.other → p ≡ q
pattern_same p q least other =
    let one : p ≡ make_pattern q.least p.other = ap (λ (x : Part). make_pattern x p.other) least in
    one ∙ ap (make_pattern q.least) other

-- the parts of two patterns in turned order
turned_same : (p q : Pattern) → p.least ≡ q.other → p.other ≡ q.least → ¬ IsPartBefore p.other p.least → ¬ IsPartBefore q.other q.least → p ≡ q
turned_same p q first second one two =
    let back : ¬ IsPartBefore p.least p.other =
    λ less. two (subst (λ (x : Part). IsPartBefore x q.least) first (subst (λ (y : Part). IsPartBefore p.least y) second less)) in
    let same : p.least ≡ p.other = parts_same p.least p.other back one in
    pattern_same p q (same ∙ second) (sym same ∙ first)

module _ (T : List Event) (place : ℕ → ℕ) (e d : ℕ) where
  pub pattern-one : (p q : Pattern) → HasPattern T place e d p → HasPattern T place e d q → p ≡ q
  pattern-one p q one two =
      elim one.parts [
        | inl a ↦ elim two.parts [
          | inl b ↦ pattern_same p q (part-one T place e d p.least q.least a.0 b.0) (part-one T place d e p.other q.other a.1 b.1)
          | inr b ↦ turned_same p q (part-one T place e d p.least q.other a.0 b.1) (part-one T place d e p.other q.least a.1 b.0) one.arranged two.arranged
        ]
        | inr a ↦ elim two.parts [
          | inl b ↦ turned_same p q (part-one T place d e p.least q.other a.0 b.1) (part-one T place e d p.other q.least a.1 b.0) one.arranged two.arranged
          | inr b ↦ pattern_same p q (part-one T place d e p.least q.least a.0 b.0) (part-one T place e d p.other q.other a.1 b.1)
        ]
      ]

-- each of two requests in a cycle waits for the other one
pub cycle_first : (T : List Event) (e d : ℕ) → IsCycle T (e ∷ d ∷ []) → WaitsFor T e d
cycle_first T e d is = is.waits 0 (omega arith)

pub cycle_second : (T : List Event) (e d : ℕ) → IsCycle T (e ∷ d ∷ []) → WaitsFor T d e
cycle_second T e d is = is.closed

-- the four locations decide the pattern
pub locations-same : (p q : Pattern) → locations_of p ≡ locations_of q → p ≡ q
locations-same p q same =
    let a : p.least.hold ≡ q.least.hold = cc in
    let b : p.least.request ≡ q.least.request = cc in
    let c : p.other.hold ≡ q.other.hold = cc in
    let d : p.other.request ≡ q.other.request = cc in
    pattern_same p q (part_same p.least q.least a b) (part_same p.other q.other c d)

-- the pattern with these parts, the lesser one first
pub pattern-from :
    (T : List Event) (place : ℕ → ℕ) (e d : ℕ) (one two : Part) (p : Pattern) → IsPart T place e d one → IsPart T place d e two
    → ((p.least ≡ one) × (p.other ≡ two)) ⊎ ((p.least ≡ two) × (p.other ≡ one)) → ¬ IsPartBefore p.other p.least → HasPattern T place e d p
pattern-from T place e d one two p first second are arranged = record {
  parts = elim are [
    | inl s ↦ inl (subst (IsPart T place e d) (sym s.0) first, subst (IsPart T place d e) (sym s.1) second)
    | inr s ↦ inr (subst (IsPart T place d e) (sym s.0) second, subst (IsPart T place e d) (sym s.1) first)
  ];
  arranged = arranged;
}
