use Rattle.std.proofs.Common.{◌≡◌, ◌+◌, ◌∙◌, Some, length, slice_index, refl, sym, ap, arith}
use Rattle.std.specs.List.{slice_get}
use Rattle.std.proofs.lemmas.Option.{same_Some, slice_get_read, slice_get_within}
use Rattle.rapid_text.specs.declared.event.Op.{Op}
use Rattle.race_groups.specs.least_pairs.Lanes.{IsPrevious}
use Rattle.race_groups.specs.least_pairs.Making.{AreBegun, IsBegun, IsOfBunch}
use Rattle.race_groups.specs.declared.least_pairs.lanes.Access.{Access}
use Rattle.race_groups.specs.declared.least_pairs.lanes.Lane.{Lane}
use Rattle.race_groups.specs.declared.least_pairs.lanes.Later.{Later}
use Rattle.race_groups.proofs.least_pairs.BunchLemmas.{if_some}
use Rattle.race_groups.proofs.least_pairs.LaneFacts.{read_is}
use Rattle.race_groups.proofs.least_pairs.LaneLemmas.{AreBegun-grown, IsBegun-added, IsBegun-later, IsInLane-of, IsInLanes-grown, IsInLanes-here, IsInLanes-set, IsPrevious-of, added_here, added_kept, event_of, set_each}
use Rattle.race_groups.proofs.least_pairs.lanes.Lanes.note.Goals as goal
use Rattle.race_groups.proofs.least_pairs.lanes.Lanes.note.Goals.{In_ok-previous}

-- the lane to which the event is added
there : (c : In_ok-previous) → slice_get c.lane_number.new.lanes.items c.in_ok-number.number ≡ Some c.index_mut.result.now
there c =
    let lanes = c.lane_number.new.lanes.items in
    let number = c.in_ok-number.number in
    let told = c.in_ok-number.ensures.found in
    slice_get_read lanes (length lanes) number c.index_mut.result.now refl (slice_get_within lanes number told.lane told.at) c.index_mut.ensures.value

-- the access that is added
abbrev one : In_ok-previous → Access
one c = record { event = c.args.event; place = c.place.result; class = c.index.result.now }

-- the lane is of its thread, and does what it does
thread_is : (c : In_ok-previous) → c.index_mut.result.now.thread ≡ c.event-found.result.thread
thread_is c =
    let told = c.in_ok-number.ensures.found in
    ap (λ (l : Lane). l.thread) (same_Some c.index_mut.result.now told.lane (sym (there c) ∙ told.at)) ∙ told.thread_is

writing_is : (c : In_ok-previous) → c.index_mut.result.now.is_writing ≡ c.is_writing-writing.result
writing_is c =
    let told = c.in_ok-number.ensures.found in
    ap (λ (l : Lane). l.is_writing) (same_Some c.index_mut.result.now told.lane (sym (there c) ∙ told.at)) ∙ told.writing_is

begun : (c : In_ok-previous) → AreBegun c.args.indexed.now.events c.args.classes.now.numbers.items c.args.variable c.args.event c.lane_number.new.lanes.items
begun c =
    AreBegun-grown c.args.indexed.now.events c.args.classes.now.numbers.items c.args.variable c.args.event c.args.self.now.list.items c.lane_number.new.lanes.items
    c.in_ok-number.ensures.grown c.requires.lanes

class_is : (c : In_ok-previous) → c.index.result.now ≡ slice_index c.args.classes.now.numbers.items c.args.event
class_is c =
    read_is c.args.classes.now.numbers.items c.args.event c.index.result.now (omega (arith, c.requires.event, c.requires.numbers)) c.index.ensures

pub returns-clause-lanes : goal.returns-clause-lanes
returns-clause-lanes c =
    let T = c.args.indexed.now.events in
    let numbers = c.args.classes.now.numbers.items in
    let x = c.args.variable in
    let n = c.args.event in
    let lanes = c.lane_number.new.lanes.items in
    let number = c.in_ok-number.number in
    let old = c.index_mut.result.now in
    let new = c.add.new.self in
    let mine = IsInLane-of T x n c.is_writing-writing.result c.event-found.result old c.event-found.ensures.found c.is_writing-writing.ensures (thread_is c) (writing_is c) in
    let are = begun c in
    let added = IsBegun-added T numbers x (one c) old new (are number old (there c)) c.in_ok-previous.ensures.added mine c.place.ensures.place (class_is c) in
    set_each lanes number old new (there c) (IsBegun T numbers x (n + 1)) (λ k l at. IsBegun-later T numbers x n (n + 1) l (omega arith) (are k l at)) added

pub returns-clause-noted : goal.returns-clause-noted
returns-clause-noted c =
    let old = c.index_mut.result.now in
    let new = c.add.new.self in
    IsInLanes-here c.lane_number.new.lanes.items c.in_ok-number.number old new (there c) c.args.event (added_here (one c) old new c.in_ok-previous.ensures.added)

pub returns-clause-kept : goal.returns-clause-kept
returns-clause-kept c = λ e is.
    let lanes = c.lane_number.new.lanes.items in
    let old = c.index_mut.result.now in
    let new = c.add.new.self in
    IsInLanes-set lanes c.in_ok-number.number old new (there c) e (added_kept (one c) old new c.in_ok-previous.ensures.added e)
    (IsInLanes-grown c.args.self.now.list.items lanes e c.in_ok-number.ensures.grown is)

pub returns-clause-later : goal.returns-clause-later
returns-clause-later c =
    let T = c.args.indexed.now.events in
    let numbers = c.args.classes.now.numbers.items in
    let old = c.index_mut.result.now in
    let later : Later = record {
      variable = c.args.variable;
      event = c.args.event;
      thread = c.event-found.result.thread;
      is_writing = c.is_writing-writing.result;
      previous = c.in_ok-previous.previous;
    } in
    record {
      here = c.event-found.ensures.found ∙ ap (λ (o : Op). Some (event_of later.thread o)) c.is_writing-writing.ensures;
      previous =
          if_some c.in_ok-previous.previous (IsOfBunch old.bunches.items c.index.result.now) (IsPrevious T numbers later)
          (λ e is. IsPrevious-of T numbers c.args.variable c.index.result.now old later e ((begun c) c.in_ok-number.number old (there c)) (thread_is c) (writing_is c) refl (class_is c) is)
          c.in_ok-previous.ensures.previous;
    }
