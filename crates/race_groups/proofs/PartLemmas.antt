-- Must-before is part of SHB: what is forced is no candidate.
use Rattle.std.proofs.Common.{◌≡◌, ℕ, ◌<◌, ◌≤◌, List, take, Some, refl, sym, ap, ◌∙◌, arith, inl, inr}
use Rattle.std.proofs.lemmas.Bool.{cases_eq, cases_lt}
use Rattle.std.proofs.lemmas.Option.{same_Some}
use Rattle.rapid_text.specs.declared.event.Event.{Event}
use Rattle.rapid_text.specs.declared.event.Op.{Op}
use Rattle.rapid_text.specs.declared.event.Op.TheVariants.{Acquire, Release}
use Rattle.trace_rules.specs.Rules.{IsDisciplined, hold_count}
use Rattle.trace_rules.proofs.CallerLemmas.{one_holder}
use Rattle.event_index.specs.Events.{op_at, thread_at}
use Rattle.event_index.proofs.CallerLemmas.{fork_of-op, op_event, thread_here, thread_within}
use Rattle.shb_clocks.specs.HappensBefore.{IsShbBefore, same as shb_same, chain, by_lock, by_join as shb_join, from_fork_to_join as shb_fork_to_join, by_writer as shb_writer}
use Rattle.shb_clocks.proofs.CallerLemmas.{Edge-base, along_thread}
use Rattle.must_order.specs.MustBefore.{Link, by_base, by_writer, by_join, from_fork_to_join, EndsFirst, IsMustBefore, same, link, section, IsForced}
use Rattle.must_order.proofs.CallerLemmas.{EndsFirst-earlier, IsMustBefore-le, held_since, section_end-is}
use Rattle.race_groups.specs.Ends.{IsKnownBefore}

acquire_no_release : {A : Type 0} (o : Op) (l m : ℕ) → Some (Acquire l) ≡ Some o → Some (Release m) ≡ Some o → A
acquire_no_release o l m is also = cc

module _ (T : List Event) (rules : IsDisciplined T) where
  by_link : (d m e : ℕ) → IsShbBefore T d m → Link T m e → IsShbBefore T d e
  by_link d m e known (by_base is) = chain m e known (Edge-base T e m is)
  by_link d m e known (by_writer is) = chain m e known (shb_writer is)
  by_link d m e known (by_join u of op) = chain m e known (shb_join u of op)
  by_link d m e known (from_fork_to_join u fork op) = chain m e known (shb_fork_to_join u (fork_of-op T u m fork) op)

  -- the section that has to end first ends before the acquire of the other
  ends_before : (p r e q : ℕ) (s : EndsFirst T p r e) → r < e → op_at T r ≡ Some (Release s.lock) → thread_at T r ≡ Some s.owner
      → op_at T q ≡ Some (Acquire s.lock) → ((k : ℕ) → q < k → k ≤ e → 0 < hold_count (take k T) s.thread s.lock) → r < q
  ends_before p r e q s early release of acquire held =
      elim (cases_lt r q) [
        | inl fine ↦ fine
        | inr back ↦
            elim (cases_eq q r) [
              | inl is ↦ acquire_no_release (Acquire s.lock) s.lock s.lock refl (sym release ∙ ap (op_at T) (sym is) ∙ acquire)
              | inr ne ↦
                  let mine = held r (omega arith) (omega arith) in
                  let v = op_event T r (Release s.lock) release in
                  let owner : v.0.thread ≡ s.owner = same_Some v.0.thread s.owner (sym (thread_here T r v.0 v.1) ∙ of) in
                  let theirs = rules.releases_held r s.lock v.0 v.1 v.2 in
                  absurd (s.other (sym owner ∙ one_holder T rules r v.0.thread s.lock s.thread theirs mine))
            ]
      ]

  by_section : (d p r e : ℕ) (s : EndsFirst T p r e) → p ≤ e → IsShbBefore T d r → IsShbBefore T d e
  by_section d p r e s le known =
      let early = (EndsFirst-earlier T rules p r e s le).1 in
      let end = section_end-is T p s.lock s.owner r s.acquires s.of_owner s.ends in
      elim s.inside [
        | inl holds ↦
            let since = held_since T rules e s.thread s.lock (omega (arith, thread_within T e s.thread s.of_thread)) holds in
            let q = since.0 in
            let low = ends_before p r e q s early end.3 end.2 since.1.outer.acquires since.1.held in
            along_thread T d q e s.thread (chain r q known (by_lock s.lock low end.3 since.1.outer.acquires)) since.1.outer.of s.of_thread (omega (arith, since.1.early))
        | inr takes ↦ chain r e known (by_lock s.lock early end.3 takes)
      ]

  pub must_is_shb : (d e : ℕ) → IsMustBefore T d e → IsShbBefore T d e
  must_is_shb d e (same _ _ is) = shb_same e is
  must_is_shb d e (link _ m _ rest one) = by_link d m e (must_is_shb d m rest) one
  must_is_shb d e (section _ p r _ rest began ends) =
      by_section d p r e ends (IsMustBefore-le T rules p e began) (must_is_shb d r rest)

  pub forced_is_known : (a b : ℕ) → IsForced T a b → IsKnownBefore T a b
  forced_is_known a b forced = (forced.0, forced.1, must_is_shb a forced.0 forced.2)
