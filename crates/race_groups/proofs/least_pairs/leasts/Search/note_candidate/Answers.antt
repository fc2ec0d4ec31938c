use Rattle.std.proofs.Common.{slice_index, get_or}
use Rattle.race_groups.specs.least_pairs.Going.{IsOwn}
use Rattle.race_groups.proofs.least_pairs.NotingLemmas.{few_variables, old_so_far, new_is, so_far_candidate, more_candidate, AreSoFar-set, AreMore-set}
use Rattle.race_groups.proofs.least_pairs.leasts.Search.note_candidate.Goals as goal

pub note_candidate-requires : goal.note_candidate-requires
note_candidate-requires c =
    let s = c.args.self.now in
    let found = c.in-Some.ensures.found in
    few_variables s.indexed.now (slice_index s.places.now) s.groups.now.rows.items s.most (IsOwn s) c.args.variable c.args.leasts.now c.requires.found.so_far
    c.in-Some.row found.0 found.1
    c.index-leasts-row.result c.len-len.ensures.well_formed c.requires.variable

pub returns-in-Some-clause-found : goal.returns-in-Some-clause-found
returns-in-Some-clause-found c =
    let s = c.args.self.now in
    let r = s.indexed.now in
    let place = slice_index s.places.now in
    let rows = s.groups.now.rows.items in
    let found = c.in-Some.ensures.found in
    let d = c.index-leasts-row.result in
    let m = c.note_candidate.new.self in
    record {
      so_far = AreSoFar-set r place rows s.most (IsOwn s) c.args.variable c.args.leasts.now c.requires.found.so_far c.in-Some.row found.0 found.1 m
          (so_far_candidate r place found.0.places s.most (IsOwn s) c.args.variable c.requires.found.own (get_or c.args.leasts.now c.in-Some.row d) m
          (old_so_far r place rows s.most (IsOwn s) c.args.variable c.args.leasts.now c.requires.found.so_far c.in-Some.row found.0 found.1 d)
          c.args.first c.args.second (record { pair = c.requires.pair; at = found.2; kind = c.requires.kind }) c.requires.access c.note_candidate.ensures);
      own = c.requires.found.own;
    }

pub returns-in-Some-clause-more : goal.returns-in-Some-clause-more
returns-in-Some-clause-more c =
    let s = c.args.self.now in
    let r = s.indexed.now in
    let place = slice_index s.places.now in
    let rows = s.groups.now.rows.items in
    let found = c.in-Some.ensures.found in
    let d = c.index-leasts-row.result in
    let m = c.note_candidate.new.self in
    AreMore-set r place rows s.most (IsOwn s) c.args.variable c.args.leasts.now c.requires.found.so_far c.in-Some.row found.0 found.1 d m
    (more_candidate s.most c.args.variable (get_or c.args.leasts.now c.in-Some.row d) m (c.args.second, c.args.first) c.note_candidate.ensures)

pub returns-in-Some-clause-held : goal.returns-in-Some-clause-held
returns-in-Some-clause-held c =
    let s = c.args.self.now in
    let found = c.in-Some.ensures.found in
    let m = c.note_candidate.new.self in
    let rows = s.groups.now.rows.items in
    let is =
    new_is s.indexed.now (slice_index s.places.now) rows s.most (IsOwn s) c.args.variable c.args.leasts.now c.requires.found.so_far c.in-Some.row found.0 found.1 m in (
      record { at = c.in-Some.row; row = found.0; found = m; row_is = found.1; found_is = is; there = found.2; holds = c.note_candidate.ensures.held },
      record { at = c.in-Some.row; row = found.0; found = m; row_is = found.1; found_is = is; there = found.2; last = c.note_candidate.ensures.variable.0 },
    )
