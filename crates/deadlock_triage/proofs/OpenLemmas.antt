-- Requests that are not refuted: neither order nor a lock forbids a schedule that shows them.
use Rattle.std.proofs.Common.{◌≡◌, ◌≢◌, ◌<◌, ℕ, List, [], ◌∷◌, take, Option, Some, None, Contains, refl, sym, ap, ◌∙◌, arith, inl, inr}
use Rattle.rapid_text.specs.declared.event.Event.{Event}
use Rattle.rapid_text.specs.declared.event.Op.TheVariants.{Acquire}
use Rattle.trace_rules.specs.Rules.{IsDisciplined, hold_count}
use Rattle.event_index.specs.Events.{op_at, thread_at}
use Rattle.event_index.specs.Lookups.{section_end}
use Rattle.event_index.proofs.CallerLemmas.{thread_event, thread_within}
use Rattle.shb_clocks.proofs.CallerLemmas.{base-after}
use Rattle.must_order.specs.MustBefore.{IsForced}
use Rattle.must_order.specs.Sections.{IsOpenAt}
use Rattle.must_order.proofs.CallerLemmas.{along_thread, held_since, section-since, section_end-is}
use Rattle.lock_waits.specs.Required.{AreRefuted, IsForeign, IsRequired, base, before, ended}
use Rattle.lock_waits.specs.Waits.{AreOfTwoThreads}
use Rattle.deadlock_triage.specs.Findings.{AreOpen}
use Rattle.deadlock_triage.proofs.ListLemmas.{Contains-at}

module _ (T : List Event) (rules : IsDisciplined T) (es : List ℕ) where
  -- a request that is forced before another one is required
  forced_refuted : (a b : ℕ) → Contains es a → Contains es b → IsForced T a b → AreRefuted T es
  forced_refuted a b has_a has_b (c, first, must) = inl (a, has_a, before a c (base b c has_b first) must)

  module _ (e d l t : ℕ) (has_e : Contains es e) (has_d : Contains es d) (of_e : thread_at T e ≡ Some t) where
    -- the section in which e is has to end, and e comes before its end
    section_refuted : (p : ℕ) → op_at T p ≡ Some (Acquire l) → thread_at T p ≡ Some t → IsRequired T es p → IsForeign T d p → (o : Option ℕ) → section_end T p ≡ o → IsOpenAt T e p → AreRefuted T es
    section_refuted p acquires of required foreign None never late =
        inr (record { request = d; start = p; has = has_d; required = required; foreign = foreign; never_ends = never })
    section_refuted p acquires of required foreign (Some r) ends late =
        let end = section_end-is T p l t r acquires of ends in
        inl (e, has_e, before e r (ended d p r has_d required foreign ends) (along_thread T rules e r t of_e end.2 (late r ends)))

    guarded_refuted : (u : ℕ) → thread_at T d ≡ Some u → t ≢ u → 0 < hold_count (take e T) t l → 0 < hold_count (take d T) u l → AreRefuted T es
    guarded_refuted u of_d apart holds also =
        let v = thread_event T e t of_e in
        let since = held_since T rules e t l (omega (arith, thread_within T e t of_e)) holds in
        let p : ℕ = since.0 in
        let s = since.1 in
        let b = base-after T e v.0 v.1 p s.early (s.outer.of ∙ ap Some (sym v.2)) in
        let required : IsRequired T es p =
        before p b.0 (base e b.0 has_e b.1) (along_thread T rules p b.0 v.0.thread (s.outer.of ∙ ap Some (sym v.2)) b.2 b.3) in
        let foreign : IsForeign T d p =
        record { lock = l; owner = t; thread = u; acquires = s.outer.acquires; of_owner = s.outer.of; of_thread = of_d; other = apart; holds = also } in
        section_refuted p s.outer.acquires s.outer.of required foreign (section_end T p) refl (section-since T rules e t l p s)

pub unrefuted_open : (T : List Event) → IsDisciplined T → (e d : ℕ) → ¬ AreRefuted T (e ∷ d ∷ []) → AreOpen T e d
unrefuted_open T rules e d unrefuted =
    let es : List ℕ = e ∷ d ∷ [] in
    let has_e : Contains es e = Contains-at es 0 e refl in
    let has_d : Contains es d = Contains-at es 1 d refl in
    record {
      unrefuted = unrefuted;
      unforced = λ forced. unrefuted (forced_refuted T rules es e d has_e has_d forced);
      unforced_back = λ forced. unrefuted (forced_refuted T rules es d e has_d has_e forced);
      unguarded = λ apart (l, ((t, of_e, holds), (u, of_d, also))).
          unrefuted (guarded_refuted T rules es e d l t has_e has_d of_e u of_d (λ same. apart (of_e ∙ ap Some same ∙ sym of_d)) holds also);
    }
