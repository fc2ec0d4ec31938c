-- What a refusal of the list in order, and a finding, say of the pair.
use Rattle.std.proofs.Common.{◌≡◌, ◌≢◌, ◌↔◌, ℕ, List, Bool, false, IsTrue, refl, sym, ◌∙◌, inl, inr}
use Rattle.std.proofs.lemmas.Bool.{false≢true}
use Rattle.std.proofs.lemmas.Option.{slice_get_within}
use Rattle.rapid_text.specs.declared.event.Event.{Event}
use Rattle.rapid_text.specs.Recording.{Recording}
use Rattle.trace_rules.specs.Rules.{IsDisciplined}
use Rattle.must_order.specs.Laws.{ApartIsNeverShown}
use Rattle.closed_order.specs.Laws.{ContradictedIsNeverShown}
use Rattle.must_order.specs.MustBefore.{by_base, IsMustBefore, link, IsForced}
use Rattle.witness_search.specs.trace_order.Laws.{HasListInOrder}
use Rattle.witness_search.specs.trace_order.Refusals.{IsRefusalOf}
use Rattle.witness_search.specs.declared.trace_order.refusal.InOrderRefusal.{InOrderRefusal}
use Rattle.witness_search.specs.declared.trace_order.refusal.InOrderRefusal.TheVariants.{NoSuchEvent, NotConflicting, NotInOrder, OutOfMemory}
use Rattle.explain_report.specs.findings.Findings.{IsFinding, IsNeverShown}
use Rattle.explain_report.specs.declared.findings.finding.Finding.{Finding}
use Rattle.explain_report.specs.declared.findings.finding.Finding.TheVariants.{Race, Forced, Guarded, Contradicted, Undecided}

-- a pair that is refused has no list in order
pub has_no_list : (T : List Event) (a b : ℕ) (why : InOrderRefusal) → IsRefusalOf T a b why → why ≢ OutOfMemory → ¬ HasListInOrder T a b
has_no_list T a b NoSuchEvent is other has =
    let f = has.conflict in
    is (slice_get_within T a f.v f.first, slice_get_within T b f.w f.second)
has_no_list T a b NotConflicting is other has = is.1 has.conflict
has_no_list T a b NotInOrder is other has = elim is.1 [ inl first ↦ has.first first | inr second ↦ has.second second ]
has_no_list T a b OutOfMemory is other has = other refl

-- a pair that was found to be apart is never shown
pub never_shown : (r : Recording) (a b : ℕ) (f : Finding) → ApartIsNeverShown → ContradictedIsNeverShown → IsDisciplined r.events → IsFinding r a b f → IsNeverShown r.events a b f
never_shown r a b (Race how events) law other rules is = tt
never_shown r a b (Forced chains) law other rules is = λ P correct. law r.events P a b rules correct (inl is.0.1)
never_shown r a b (Guarded lock) law other rules is = λ P correct. law r.events P a b rules correct (inr is.0.2)
never_shown r a b (Contradicted steps) law other rules is = λ P correct. other r.events P a b rules correct is.1.contradicted
never_shown r a b (Undecided events) law other rules is = tt

-- what is forced is must-before
pub forced_before : (T : List Event) (a b : ℕ) → IsForced T a b → IsMustBefore T a b
forced_before T a b f = link a f.0 b f.2 (by_base f.1)

-- what a test that failed refutes
pub refuted : (P : Type 0) (b : Bool) → IsTrue b ↔ P → b ≡ false → ¬ P
refuted P b tells not_so p = false≢true (sym not_so ∙ tells.1 p)
