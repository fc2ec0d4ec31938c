-- The list in order of a candidate lies within its slice.
use Rattle.std.proofs.Common.{ℕ, ◌≤◌, List, refl, arith, inl, inr}
use Rattle.rapid_text.specs.declared.event.Event.{Event}
use Rattle.trace_rules.specs.Rules.{IsDisciplined}
use Rattle.event_index.proofs.CallerLemmas.{base_of-earlier, fork_of-op, IsConflicting-sym}
use Rattle.shb_clocks.specs.Candidates.{IsCandidatePair}
use Rattle.shb_clocks.specs.HappensBefore.{Edge, by_lock, by_join as edge_join, from_fork_to_join as edge_fork, by_writer as edge_writer, same, chain}
use Rattle.shb_clocks.proofs.CallerLemmas.{Edge-base, IsShbBefore-trans, IsShbBefore-le}
use Rattle.must_order.specs.MustBefore.{Link, by_base, by_writer, by_join, from_fork_to_join}
use Rattle.must_order.proofs.OrderLemmas.{EndsFirst-earlier}
use Rattle.must_order.proofs.SectionLemmas.{section_end-is}
use Rattle.witness_search.specs.Slices.{IsBelowBase, IsBelowPair}
use Rattle.witness_search.specs.trace_order.InOrder.{EndsBetween, IsBaseOfPair, IsNeededFor}
use Rattle.witness_search.specs.trace_order.Laws.{HasListInOrder, CandidatesAreInOrder}
use Rattle.witness_search.proofs.trace_order.NeededLemmas.{needed_in}
use Rattle.witness_search.proofs.trace_order.RisingLemmas.{EndsFirst-between}

-- each reason of what is needed is an edge
Edge-link : (T : List Event) (d e : ℕ) → Link T d e → Edge T d e
Edge-link T d e (by_base base) = Edge-base T e d base
Edge-link T d e (by_writer is) = edge_writer is
Edge-link T d e (by_join u of op) = edge_join u of op
Edge-link T d e (from_fork_to_join u fork op) = edge_fork u (fork_of-op T u d fork) op

Edge-between : (T : List Event) → IsDisciplined T → (p r e : ℕ) → EndsBetween T p r e → Edge T r e
Edge-between T rules p r e s =
    let low : p ≤ e = omega (arith, s.earlier) in
    by_lock s.lock (EndsFirst-earlier T rules p r e (EndsFirst-between T p r e s) low).1
    (section_end-is T p s.lock s.owner r s.first s.of_owner s.ends).3 s.second

below_edge : (T : List Event) (a d e : ℕ) → Edge T d e → IsBelowBase T a e → IsBelowBase T a d
below_edge T a d e edge (c, base, before) = (c, base, IsShbBefore-trans T d e c (chain d e (same d refl) edge) before)

pair_edge : (T : List Event) (a b d e : ℕ) → Edge T d e → IsBelowPair T a b e → IsBelowPair T a b d
pair_edge T a b d e edge (inl first) = inl (below_edge T a d e edge first)
pair_edge T a b d e edge (inr second) = inr (below_edge T b d e edge second)

needed_below : (T : List Event) → IsDisciplined T → (a b e : ℕ) → IsNeededFor T a b e → IsBelowPair T a b e
needed_below T rules a b e need =
    needed_in T (IsBaseOfPair T a b) (IsBelowPair T a b)
    (record {
      links = λ d m one below. pair_edge T a b d m (Edge-link T d m one) below;
      sections = λ p r m s has also. pair_edge T a b r m (Edge-between T rules p r m s) also;
    })
    (λ c base. elim base [
      | inl first ↦ inl (c, first, same c refl)
      | inr second ↦ inr (c, second, same c refl)
    ])
    e need

-- an event is not below its own base
not_below : (T : List Event) → IsDisciplined T → (a e : ℕ) → a ≤ e → IsBelowBase T a e → ⊥
not_below T rules a e le (c, base, before) = omega (arith, base_of-earlier T rules a c base, IsShbBefore-le T rules e c before)

candidate_has : (T : List Event) → IsDisciplined T → (a b : ℕ) → IsCandidatePair T a b → HasListInOrder T a b
candidate_has T rules a b (inl cand) = record {
  conflict = cand.conflict;
  first = λ need.
      elim (needed_below T rules a b a need) [
        | inl own ↦ not_below T rules a a (omega arith) own
        | inr other ↦ cand.apart other.0 other.1 other.2
      ];
  second = λ need.
      elim (needed_below T rules a b b need) [
        | inl other ↦ not_below T rules a b (omega (arith, cand.earlier)) other
        | inr own ↦ not_below T rules b b (omega arith) own
      ];
}
candidate_has T rules a b (inr cand) = record {
  conflict = IsConflicting-sym T b a cand.conflict;
  first = λ need.
      elim (needed_below T rules a b a need) [
        | inl own ↦ not_below T rules a a (omega arith) own
        | inr other ↦ not_below T rules b a (omega (arith, cand.earlier)) other
      ];
  second = λ need.
      elim (needed_below T rules a b b need) [
        | inl other ↦ cand.apart other.0 other.1 other.2
        | inr own ↦ not_below T rules b b (omega arith) own
      ];
}

pub candidate_law : CandidatesAreInOrder
candidate_law T a b rules = (λ e need. needed_below T rules a b e need, λ cand. candidate_has T rules a b cand)
