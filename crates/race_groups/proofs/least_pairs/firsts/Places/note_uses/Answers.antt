use Rattle.std.proofs.Common.{slice_index}
use Rattle.race_groups.proofs.least_pairs.BetweenLemmas.{AreUsesHeld-none, AreUsesHeld-some, pair_between}
use Rattle.race_groups.proofs.least_pairs.firsts.Places.note_uses.Goals as goal

pub note_pair-requires-clause-pair : goal.note_pair-requires-clause-pair
note_pair-requires-clause-pair c =
    let s = c.args.self.now in
    (pair_between s.indexed.now.events (slice_index s.places.now) c.args._variable c.args.one c.args.other c.in-Some.pair c.requires.one c.requires.other c.requires.writes c.in-Some.ensures.some).0

pub note_pair-requires-clause-places : goal.note_pair-requires-clause-places
note_pair-requires-clause-places c =
    let s = c.args.self.now in
    (pair_between s.indexed.now.events (slice_index s.places.now) c.args._variable c.args.one c.args.other c.in-Some.pair c.requires.one c.requires.other c.requires.writes c.in-Some.ensures.some).1

pub returns-in-Some-clause-held : goal.returns-in-Some-clause-held
returns-in-Some-clause-held c =
    let s = c.args.self.now in
    let T = s.indexed.now.events in
    let place = slice_index s.places.now in
    let p = c.in-Some.pair in
    let there = (pair_between T place c.args._variable c.args.one c.args.other p c.requires.one c.requires.other c.requires.writes c.in-Some.ensures.some).1 in
    AreUsesHeld-some T place c.args._variable s.groups.now.rows.items c.note_pair.new.firsts.items c.args.one c.args.other p there c.note_pair.ensures.held c.in-Some.ensures.holds

pub returns-in_default-clause-held : goal.returns-in_default-clause-held
returns-in_default-clause-held c =
    let s = c.args.self.now in
    AreUsesHeld-none s.indexed.now.events (slice_index s.places.now) c.args._variable s.groups.now.rows.items c.args.firsts.now.items c.args.one c.args.other c.in_default.ensures.holds
