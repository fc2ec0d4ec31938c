use Rattle.std.proofs.Common.{◌<◌, slice_index, get_or, refl, sym, ◌∙◌, subst, inl, inr}
use Rattle.std.proofs.lemmas.Option.{get_or_from_slice_get}
use Rattle.race_groups.specs.declared.kinds.Row.{Row}
use Rattle.race_groups.specs.least_pairs.Going.{IsOwn}
use Rattle.race_groups.proofs.least_pairs.NotingLemmas.{few_variables, old_so_far, new_is, so_far_variable, so_far_open, more_variable, more_open, known_is_open, AreSoFar-set, AreMore-set}
use Rattle.race_groups.proofs.least_pairs.leasts.Search.note_open.Goals as goal

pub note_variable-requires : goal.note_variable-requires
note_variable-requires c =
    let s = c.args.self.now in
    let found = c.in-Some.ensures.found in
    few_variables s.indexed.now (slice_index s.places.now) s.groups.now.rows.items s.most (IsOwn s) c.args.of.variable c.args.leasts.now c.requires.found.so_far
    c.in-Some.row found.0 found.1 c.index-leasts-row.result c.len-len.ensures.well_formed c.requires.variable

pub note_open-requires-clause-variables : goal.note_open-requires-clause-variables
note_open-requires-clause-variables c =
    let s = c.args.self.now in
    let found = c.in-Some.ensures.found in
    few_variables s.indexed.now (slice_index s.places.now) s.groups.now.rows.items s.most (IsOwn s) c.args.of.variable c.args.leasts.now c.requires.found.so_far
    c.in-Some.row found.0 found.1 c.index-leasts-row-2.result c.len-len.ensures.well_formed c.requires.variable

pub note_open-requires-clause-tries : goal.note_open-requires-clause-tries
note_open-requires-clause-tries c =
    let s = c.args.self.now in
    let found = c.in-Some.ensures.found in
    (old_so_far s.indexed.now (slice_index s.places.now) s.groups.now.rows.items s.most (IsOwn s) c.args.of.variable c.args.leasts.now c.requires.found.so_far
    c.in-Some.row found.0 found.1 c.index-leasts-row-2.result).tries

pub returns-then-index-gt0-clause-found : goal.returns-then-index-gt0-clause-found
returns-then-index-gt0-clause-found c =
    let s = c.args.self.now in
    let r = s.indexed.now in
    let place = slice_index s.places.now in
    let rows = s.groups.now.rows.items in
    let x = c.args.of.variable in
    let found = c.in-Some.ensures.found in
    let k = s.classes.now in
    let groups = c.requires.sound.groups in
    let kind =
    known_is_open r place k.numbers.items k.infos.items k.lists.keys c.args.first c.args.second c.len-len.ensures.well_formed c.len-len.ensures.disciplined
    groups.classes groups.locks c.requires.pair c.requires.known c.requires.loose (sym c.if-is_guarded.ensures) in
    let l = get_or c.args.leasts.now c.in-Some.row c.index-leasts-row.result in
    let m = c.note_variable.new.self in
    let so_far = old_so_far r place rows s.most (IsOwn s) x c.args.leasts.now c.requires.found.so_far c.in-Some.row found.0 found.1 c.index-leasts-row.result in
    record {
      so_far = AreSoFar-set r place rows s.most (IsOwn s) x c.args.leasts.now c.requires.found.so_far c.in-Some.row found.0 found.1 m
          (so_far_variable r place found.0.places s.most (IsOwn s) x c.requires.found.own l m so_far
          c.args.first c.args.second (record { pair = c.requires.pair; at = found.2; kind = kind }) c.requires.of_these.variable c.note_variable.ensures.noted
          c.note_variable.ensures.candidate c.note_variable.ensures.tries);
      own = c.requires.found.own;
    }

pub returns-then-index-gt0-clause-more : goal.returns-then-index-gt0-clause-more
returns-then-index-gt0-clause-more c =
    let s = c.args.self.now in
    let r = s.indexed.now in
    let place = slice_index s.places.now in
    let rows = s.groups.now.rows.items in
    let x = c.args.of.variable in
    let found = c.in-Some.ensures.found in
    let l = get_or c.args.leasts.now c.in-Some.row c.index-leasts-row.result in
    let m = c.note_variable.new.self in
    AreMore-set r place rows s.most (IsOwn s) x c.args.leasts.now c.requires.found.so_far c.in-Some.row found.0 found.1 c.index-leasts-row.result m
    (more_variable s.most x l m c.note_variable.ensures.noted c.note_variable.ensures.candidate c.note_variable.ensures.tries)

pub returns-then-index-gt0-clause-held : goal.returns-then-index-gt0-clause-held
returns-then-index-gt0-clause-held c =
    let s = c.args.self.now in
    let r = s.indexed.now in
    let place = slice_index s.places.now in
    let rows = s.groups.now.rows.items in
    let x = c.args.of.variable in
    let found = c.in-Some.ensures.found in
    let m = c.note_variable.new.self in
    let is = new_is r place rows s.most (IsOwn s) x c.args.leasts.now c.requires.found.so_far c.in-Some.row found.0 found.1 m in
    let same = c.index.ensures ∙ get_or_from_slice_get rows c.in-Some.row found.0 c.index.result.now found.1 in
    let some = subst (λ (y : Row). 0 < y.counts.candidates) same c.if-index-gt0.true in
    λ _. (
      record { at = c.in-Some.row; row = found.0; found = m; row_is = found.1; found_is = is; there = found.2; holds = inl some },
      record { at = c.in-Some.row; row = found.0; found = m; row_is = found.1; found_is = is; there = found.2; last = c.note_variable.ensures.noted.0 },
    )

pub returns-clause-found : goal.returns-clause-found
returns-clause-found c =
    let s = c.args.self.now in
    let r = s.indexed.now in
    let place = slice_index s.places.now in
    let rows = s.groups.now.rows.items in
    let x = c.args.of.variable in
    let found = c.in-Some.ensures.found in
    let k = s.classes.now in
    let groups = c.requires.sound.groups in
    let kind =
    known_is_open r place k.numbers.items k.infos.items k.lists.keys c.args.first c.args.second c.len-len.ensures.well_formed c.len-len.ensures.disciplined
    groups.classes groups.locks c.requires.pair c.requires.known c.requires.loose (sym c.if-is_guarded.ensures) in
    let l = get_or c.args.leasts.now c.in-Some.row c.index-leasts-row-2.result in
    let m = c.note_open.new.self in
    let so_far = old_so_far r place rows s.most (IsOwn s) x c.args.leasts.now c.requires.found.so_far c.in-Some.row found.0 found.1 c.index-leasts-row-2.result in
    record {
      so_far = AreSoFar-set r place rows s.most (IsOwn s) x c.args.leasts.now c.requires.found.so_far c.in-Some.row found.0 found.1 m
          (so_far_open r place found.0.places s.most (IsOwn s) x c.requires.found.own l m so_far
          c.args.of c.args.first c.args.second refl
          (record { fit = record { pair = c.requires.pair; at = found.2; kind = kind }; of_these = c.requires.of_these }) c.in_ok-note_open.ensures);
      own = c.requires.found.own;
    }

pub returns-clause-more : goal.returns-clause-more
returns-clause-more c =
    let s = c.args.self.now in
    let r = s.indexed.now in
    let place = slice_index s.places.now in
    let rows = s.groups.now.rows.items in
    let x = c.args.of.variable in
    let found = c.in-Some.ensures.found in
    let l = get_or c.args.leasts.now c.in-Some.row c.index-leasts-row-2.result in
    let m = c.note_open.new.self in
    AreMore-set r place rows s.most (IsOwn s) x c.args.leasts.now c.requires.found.so_far c.in-Some.row found.0 found.1 c.index-leasts-row-2.result m
    (more_open s.most x l m (record { between = c.args.of; pair = (c.args.second, c.args.first) }) refl c.in_ok-note_open.ensures)

pub returns-clause-held : goal.returns-clause-held
returns-clause-held c =
    let s = c.args.self.now in
    let r = s.indexed.now in
    let place = slice_index s.places.now in
    let rows = s.groups.now.rows.items in
    let x = c.args.of.variable in
    let found = c.in-Some.ensures.found in
    let m = c.note_open.new.self in
    let noted = c.in_ok-note_open.ensures in
    let is = new_is r place rows s.most (IsOwn s) x c.args.leasts.now c.requires.found.so_far c.in-Some.row found.0 found.1 m in
    λ _. (
      record { at = c.in-Some.row; row = found.0; found = m; row_is = found.1; found_is = is; there = found.2; holds = inr noted.noted.held },
      record { at = c.in-Some.row; row = found.0; found = m; row_is = found.1; found_is = is; there = found.2; last = noted.variable.0 },
    )
