use Rattle.std.proofs.Common.{refl, arith}
use Rattle.event_index.proofs.CallerLemmas.{thread_here}
use Rattle.race_groups.proofs.HeldLemmas.{AreLocksOf-thread}
use Rattle.race_groups.proofs.ListingLemmas.{AreKnown-access, AreKnown-passed, access_frees_none, access_takes_none}
use Rattle.race_groups.proofs.listing.Listing.number.Goals as goal

pub returns-in_default-clause-known : goal.returns-in_default-clause-known
returns-in_default-clause-known c =
    let v = c.event-found.result in
    AreKnown-passed c.args.holds.indexed.now.events c.args.lists.now.keys c.args.event c.args.self.now.known.items c.requires.known v _ c.event-found.ensures.found
    (omega (arith, c.event-found.ensures.named.0, c.requires.threads)) refl

pub returns-clause-at : goal.returns-clause-at
returns-clause-at c = λ x op at accessed.
    let T = c.args.holds.indexed.now.events in
    let v = c.event-found.result in
    AreLocksOf-thread T c.list_of.new.lists.keys c.args.event v.thread c.in_ok-number.number (thread_here T c.args.event v c.event-found.ensures.found) c.in_ok-number.ensures.at

pub returns-clause-known : goal.returns-clause-known
returns-clause-known c =
    let v = c.event-found.result in
    let accessed = c.in-Some.ensures.some in
    AreKnown-access c.args.holds.indexed.now.events c.list_of.new.lists.keys c.args.event c.list_of.new.self.known.items c.in_ok-number.ensures.known v c.event-found.ensures.found
    (access_takes_none c.in-Some._variable v.op accessed) (access_frees_none c.in-Some._variable v.op accessed)
