use Rattle.std.proofs.Common.{◌<◌, length, slice_index, refl, arith}
use Rattle.std.proofs.lemmas.Option.{slice_get_read, slice_get_within}
use Rattle.race_groups.specs.declared.kinds.Row.{Row}
use Rattle.race_groups.proofs.least_pairs.BetweenLemmas.{between_here, between_over}
use Rattle.race_groups.proofs.least_pairs.FirstLemmas.{AreFirstsNoted-set, IsFirstHeld-set, row_there}
use Rattle.race_groups.proofs.least_pairs.firsts.Places.note_pair.Goals as goal

pub returns-in-Some-clause-noted : goal.returns-in-Some-clause-noted
returns-in-Some-clause-noted c =
    let s = c.args.self.now in
    let place = slice_index s.places.now in
    let rows = s.groups.now.rows.items in
    let old = c.args.firsts.now.items in
    let at = c.in-Some.row in
    let pair = c.args.pair in
    let found = c.in-Some.ensures.found in
    let row : Row = found.0 in
    let low : at < length old = omega (arith, slice_get_within rows at row found.1, c.requires.firsts.len) in
    let known = slice_get_read old (length old) at c.index.result.now refl low c.index.ensures in
    let there = between_over row.places.0 row.places.1 c.args.first c.args.second c.args.first c.args.second (place pair.1) (place pair.0) found.2 (between_here c.args.first c.args.second) c.requires.places in
    AreFirstsNoted-set s.indexed.now place rows old c.requires.firsts at row found.1 c.index.result.now c.lesser.result known pair c.requires.pair there c.lesser.ensures.either c.lesser.ensures.one c.lesser.ensures.other

pub returns-in-Some-clause-held : goal.returns-in-Some-clause-held
returns-in-Some-clause-held c =
    let s = c.args.self.now in
    let place = slice_index s.places.now in
    let rows = s.groups.now.rows.items in
    let old = c.args.firsts.now.items in
    let at = c.in-Some.row in
    let pair = c.args.pair in
    let found = c.in-Some.ensures.found in
    let row : Row = found.0 in
    let low : at < length old = omega (arith, slice_get_within rows at row found.1, c.requires.firsts.len) in
    let known = slice_get_read old (length old) at c.index.result.now refl low c.index.ensures in
    let there = between_over row.places.0 row.places.1 c.args.first c.args.second c.args.first c.args.second (place pair.1) (place pair.0) found.2 (between_here c.args.first c.args.second) c.requires.places in
    IsFirstHeld-set s.indexed.now place rows old c.requires.firsts at row found.1 c.index.result.now c.lesser.result known pair c.requires.pair there c.lesser.ensures.either c.lesser.ensures.one c.lesser.ensures.other

pub returns-in_default-clause-held : goal.returns-in_default-clause-held
returns-in_default-clause-held c =
    let s = c.args.self.now in
    absurd (row_there s.indexed.now (slice_index s.places.now) s.groups.now.rows.items c.requires.asked.complete c.args.first c.args.second c.args.pair c.requires.pair c.requires.places (c.in_default.ensures.none refl))
