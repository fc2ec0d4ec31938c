-- The least list in the order of the trace after which one event is ready.
use Rattle.std.proofs.Common.{◌≡◌, ℕ, ◌<◌, List, Option, None, length, sym, ◌∙◌, arith, inl, inr}
use Rattle.std.proofs.lemmas.Option.{none-some}
use Rattle.rapid_text.specs.declared.event.Event.{Event}
use Rattle.trace_rules.specs.Rules.{IsDisciplined}
use Rattle.event_index.specs.Lookups.{base_of}
use Rattle.event_index.proofs.CallerLemmas.{base_of-earlier}
use Rattle.schedule.specs.Reordering.{IsCorrectReordering}
use Rattle.schedule.specs.Shows.{IsReady}
use Rattle.must_order.proofs.OrderLemmas.{Link-earlier, EndsFirst-earlier}
use Rattle.witness_search.specs.trace_order.InOrder.{IsNeeded, started, AreNeeded}
use Rattle.witness_search.specs.trace_order.Laws.{IsBaseOf}
use Rattle.witness_search.specs.trace_order.Layout.{IsEither, IsNeededRow, IsCountedList}
use Rattle.witness_search.proofs.trace_order.NeededLemmas.{IsClosedIn-needed, needed_in, ready_law}
use Rattle.witness_search.proofs.trace_order.RisingLemmas.{EndsFirst-between}

-- what is needed for one event stands before it in the trace
needed_earlier : (T : List Event) → IsDisciplined T → (b e : ℕ) → IsNeeded T (IsBaseOf T b) e → e < b
needed_earlier T rules b e need =
    needed_in T (IsBaseOf T b) (λ k. k < b)
    (record {
      links = λ d m one lt. omega (arith, lt, Link-earlier T rules d m one);
      sections = λ p r m s has also. omega (arith, also, (EndsFirst-earlier T rules p r m (EndsFirst-between T p r m s) (omega (arith, s.earlier))).1);
    })
    (λ c base. base_of-earlier T rules b c base)
    e need

-- so it is ready after the least list that has all of it
pub IsReady-needed : (T : List Event) → IsDisciplined T → (b : ℕ) (P : List ℕ) → b < length T → AreNeeded T (IsBaseOf T b) P → IsReady T P b
IsReady-needed T rules b P within are = (ready_law T P b rules within are).1.1 (λ need. omega (arith, needed_earlier T rules b b need))

pub IsCorrectReordering-ready : (T : List Event) → IsDisciplined T → (b : ℕ) (P : List ℕ) → b < length T → AreNeeded T (IsBaseOf T b) P → IsCorrectReordering T P
IsCorrectReordering-ready T rules b P within are = (ready_law T P b rules within are).0

-- a row that counts what is needed from one start on lists what is needed for the event
pub AreNeeded-row :
    (T : List Event) (b : ℕ) (o : Option ℕ) (row : ℕ → ℕ) (P : List ℕ) → o ≡ base_of T b → IsNeededRow T (IsEither o None) row → IsCountedList T row P
    → AreNeeded T (IsBaseOf T b) P
AreNeeded-row T b o row P is needs are =
    let one : (e : ℕ) → IsEither o None e → IsNeeded T (IsBaseOf T b) e =
    (λ e from. elim from [ inl base ↦ started e (sym is ∙ base) | inr none ↦ absurd (none-some e none) ]) in
    let other : (e : ℕ) → IsBaseOf T b e → IsNeeded T (IsEither o None) e = (λ e base. started e (inl (is ∙ base))) in
    record {
      rising = are.rising;
      members = λ e. (
        λ m. needed_in T (IsEither o None) (IsNeeded T (IsBaseOf T b)) (IsClosedIn-needed T (IsBaseOf T b)) one e ((needs e).0 ((are.members e).0 m)),
        λ need. (are.members e).1 ((needs e).1 (needed_in T (IsBaseOf T b) (IsNeeded T (IsEither o None)) (IsClosedIn-needed T (IsEither o None)) other e need)),
      );
    }
