use Rattle.std.specs.List.{slice_get}
use Rattle.std.proofs.Common.{◌≡◌, ℕ, ◌+◌, Some, List, length, rules, arith, ap, sym, ◌∙◌, subst}
use Rattle.rapid_text.specs.Recording.{Recording}
use Rattle.race_triage.specs.Places.{AreFirstUses, AreNumbered}
use Rattle.race_triage.proofs.PlaceLemmas.{AreFirstUses-push, AreNumbered-push, AreNumbers-end}
use Rattle.race_triage.proofs.places.Places.number_all.Goals as goal

pub loop-event-preserved : goal.loop-event-preserved
loop-event-preserved c =
    let r = c.args.indexed.now in
    let named : slice_get r.locations c.loop-event.event ≡ Some c.location.result.now = search rules in
    let made = AreNumbered-push r c.loop-event.event c.loop-event.self.locations.keys c.number_of.new.locations.keys c.loop-event.self.numbers.items c.in_ok-number.number
    c.location.result.now c.loop-event.invariant.0 c.in_ok-number.ensures.kept named c.in_ok-number.ensures.at in (
      subst (λ (ns : List ℕ). AreNumbered r (c.loop-event.event + 1) c.number_of.new.locations.keys ns) (sym c.in_ok-push.ensures.items) made,
      AreFirstUses-push r c.loop-event.event c.loop-event.self.locations.keys c.number_of.new.locations.keys c.location.result.now c.loop-event.invariant.1 named
          c.in_ok-number.ensures.noted,
    )

pub returns : goal.returns
returns c =
    let r = c.args.indexed.now in
    let keys = c.loop-event.self.locations.keys in
    let same : length c.raw-raw.result.now.events ≡ length r.events = ap (λ (s : Recording). length s.events) (c.raw-raw.ensures.same ∙ c.trace.ensures.same) in
    let end : c.loop-event.event ≡ length r.events = omega (arith, c.loop-event-test.false, c.loop-event.auto.event-end, c.len-event-end.ensures.len, c.len-len.ensures.len, same) in
    let whole : AreNumbered r (length r.events) keys c.loop-event.self.numbers.items = subst (λ n. AreNumbered r n keys c.loop-event.self.numbers.items) end c.loop-event.invariant.0 in
    let firsts : AreFirstUses r (length r.events) keys = subst (λ n. AreFirstUses r n keys) end c.loop-event.invariant.1 in
    record { numbers = AreNumbers-end r keys c.loop-event.self.numbers.items c.len-len.ensures.well_formed whole; spots = whole; firsts = firsts }
