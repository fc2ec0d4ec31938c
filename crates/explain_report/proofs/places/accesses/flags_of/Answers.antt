use Rattle.std.proofs.Common.{length, map, ◌==◌}
use Rattle.event_index.specs.Lookups.{before}
use Rattle.explain_report.specs.places.Accesses.{flags_of_place}
use Rattle.explain_report.proofs.places.FlagLemmas.{as_many, length-flags_of_event, length-flags_of_place}
use Rattle.explain_report.proofs.places.accesses.flags_of.Goals as goal

pub returns-in-Event-clause-len : goal.returns-in-Event-clause-len
returns-in-Event-clause-len c =
    let n = length c.args.indexed.now.events in
    as_many c.flags_of_event.result (map (λ e. e == c.in-Event.number) (before n)) n (length-flags_of_event c.in-Event.number n) c.flags_of_event.ensures

pub returns-in-Place-clause-len : goal.returns-in-Place-clause-len
returns-in-Place-clause-len c =
    let r = c.args.indexed.now in
    as_many c.flags_of_place.result (flags_of_place r c.in-Place.word.now) (length r.events) (length-flags_of_place r c.in-Place.word.now) c.flags_of_place.ensures
