use Rattle.std.proofs.Common.{◌≡◌, length, refl, sym, subst, arith}
use Rattle.race_groups.specs.least_pairs.Reach.{IsOrdered}
use Rattle.race_groups.proofs.least_pairs.AlikeLemmas.{HasCandidate-more}
use Rattle.race_groups.proofs.least_pairs.HeldLemmas.{AreMore-chain}
use Rattle.race_groups.proofs.least_pairs.LaneFacts.{at_place, places_rise}
use Rattle.race_groups.proofs.least_pairs.SoughtLemmas.{both_taken, candidate_window, open_window, reach_of}
use Rattle.race_groups.proofs.least_pairs.TakenLemmas.{AreTakenBefore-more}
use Rattle.race_groups.proofs.least_pairs.leasts.Search.compare.Goals as goal

pub reach-known-requires-clause-ordered : goal.reach-known-requires-clause-ordered
reach-known-requires-clause-ordered c =
    let s = c.args.self.now in
    subst IsOrdered (sym c.as_slice-places.ensures.value)
    (places_rise s.indexed.now.events s.classes.now.numbers.items c.args.later.variable c.args.lane.now c.requires.lanes.begun.plain)

pub reach-forced-requires-clause-ordered : goal.reach-forced-requires-clause-ordered
reach-forced-requires-clause-ordered c =
    let s = c.args.self.now in
    subst IsOrdered (sym c.as_slice-places.ensures.value)
    (places_rise s.indexed.now.events s.classes.now.numbers.items c.args.later.variable c.args.lane.now c.requires.lanes.begun.plain)

pub take-requires-clause-window : goal.take-requires-clause-window
take-requires-clause-window c =
    let lane = c.args.lane.now in
    let places = lane.places.items in
    let end : c.len-end.result ≡ length places = omega (arith, c.len-end.ensures, lane.places.ok.0) in
    let same = c.as_slice-places.ensures.value in
    candidate_window c.args.self.now c.requires.sound lane c.args.later c.requires.lanes c.ends-ends.result.known c.ends-ends.result.forced c.ends-ends.ensures.known c.ends-ends.ensures.forced
    c.reach-forced.result c.reach-known.result
    (reach_of c.as_slice-places.result.now places c.len-end.result (length places) c.ends-ends.result.known c.reach-known.result same end c.reach-known.ensures)
    (reach_of c.as_slice-places.result.now places c.reach-known.result c.reach-known.result c.ends-ends.result.forced c.reach-forced.result same refl c.reach-forced.ensures)
    (record { lane = c.args.lane; later = c.args.later; from = c.reach-known.result; end = c.len-end.result }) refl refl refl end

pub take-requires-2-clause-window : goal.take-requires-2-clause-window
take-requires-2-clause-window c =
    let lane = c.args.lane.now in
    let places = lane.places.items in
    let end : c.len-end.result ≡ length places = omega (arith, c.len-end.ensures, lane.places.ok.0) in
    let same = c.as_slice-places.ensures.value in
    open_window c.args.self.now c.requires.sound lane c.args.later c.requires.lanes c.ends-ends.result.known c.ends-ends.result.forced c.ends-ends.ensures.known c.ends-ends.ensures.forced
    c.reach-forced.result c.reach-known.result
    (reach_of c.as_slice-places.result.now places c.len-end.result (length places) c.ends-ends.result.known c.reach-known.result same end c.reach-known.ensures)
    (reach_of c.as_slice-places.result.now places c.reach-known.result c.reach-known.result c.ends-ends.result.forced c.reach-forced.result same refl c.reach-forced.ensures)
    (record { lane = c.args.lane; later = c.args.later; from = c.reach-forced.result; end = c.reach-known.result }) refl refl refl refl

pub take-requires-2-clause-before : goal.take-requires-2-clause-before
take-requires-2-clause-before c =
    AreTakenBefore-more c.args.self.now c.args.later.variable c.args.later.event c.args.leasts.now c.take.new.leasts c.in_ok-take.ensures.more c.requires.before

pub returns-clause-more : goal.returns-clause-more
returns-clause-more c =
    AreMore-chain c.args.self.now.most c.args.later.variable c.args.leasts.now c.take.new.leasts c.take-2.new.leasts c.in_ok-take.ensures.more c.in_ok-take-2.ensures.more

pub returns-clause-taken : goal.returns-clause-taken
returns-clause-taken c =
    let s = c.args.self.now in
    let lane = c.args.lane.now in
    let later = c.args.later in
    let places = lane.places.items in
    let end : c.len-end.result ≡ length places = omega (arith, c.len-end.ensures, lane.places.ok.0) in
    let same = c.as_slice-places.ensures.value in
    both_taken s c.requires.sound lane later c.requires.lanes c.ends-ends.result.known c.ends-ends.result.forced c.ends-ends.ensures.known c.ends-ends.ensures.forced
    c.reach-forced.result c.reach-known.result
    (reach_of c.as_slice-places.result.now places c.len-end.result (length places) c.ends-ends.result.known c.reach-known.result same end c.reach-known.ensures)
    (reach_of c.as_slice-places.result.now places c.reach-known.result c.reach-known.result c.ends-ends.result.forced c.reach-forced.result same refl c.reach-forced.ensures)
    c.take-2.new.leasts
    (λ k le lt kind.
    HasCandidate-more s c.take.new.leasts c.take-2.new.leasts (at_place lane k) later.event later.variable c.in_ok-take-2.ensures.more
    (c.in_ok-take.ensures.held k le (omega (arith, lt, end)) kind))
    c.in_ok-take-2.ensures.held
