use Rattle.std.proofs.Common.{refl, ap, ◌∙◌}
use Rattle.race_groups.proofs.least_pairs.TryLemmas.{IsRoomMade, room_read, room_read_none, try_put, try_passed}
use Rattle.race_groups.proofs.least_pairs.tries.note_try.Goals as goal
use Rattle.race_groups.proofs.least_pairs.tries.note_try.Goals.{in-Some+else-is_less, in_default}

pub returns-then-at-most : goal.returns-then-at-most
returns-then-at-most c =
    let t = c.args.new in
    let old = c.args.tries.now.items in
    let seen = c.as_slice.result.now in
    let room = c.match-place_of.tries.items in
    let made : IsRoomMade t old room = elim c.match-place_of.branch [
      | in-Some+else-is_less w ↦
          room_read c.args.most w.in-Some.at t w.index.result.now old seen room w.is_less.result c.requires.tries c.as_slice.ensures.value
          w.in-Some.ensures.within w.in-Some.ensures.found w.index.ensures w.is_less.ensures.1 w.if-is_less.false
          (ap (λ v. v.items) w.tries-is ∙ w.remove.ensures.items)
      | in_default w ↦
          room_read_none c.args.most t old seen room c.requires.tries c.as_slice.ensures.value (w.in_default.ensures.none refl)
          (ap (λ v. v.items) w.tries-is)
    ] in
    let at = c.place_for-at.ensures in
    try_passed c.args.most c.place_for-at.result t old room c.as_slice-2.result.now c.requires.tries made c.as_slice-2.ensures.value at.within at.low
    c.if-at-most.true

pub returns : goal.returns
returns c =
    let t = c.args.new in
    let old = c.args.tries.now.items in
    let seen = c.as_slice.result.now in
    let room = c.match-place_of.tries.items in
    let made : IsRoomMade t old room = elim c.match-place_of.branch [
      | in-Some+else-is_less w ↦
          room_read c.args.most w.in-Some.at t w.index.result.now old seen room w.is_less.result c.requires.tries c.as_slice.ensures.value
          w.in-Some.ensures.within w.in-Some.ensures.found w.index.ensures w.is_less.ensures.1 w.if-is_less.false
          (ap (λ v. v.items) w.tries-is ∙ w.remove.ensures.items)
      | in_default w ↦
          room_read_none c.args.most t old seen room c.requires.tries c.as_slice.ensures.value (w.in_default.ensures.none refl)
          (ap (λ v. v.items) w.tries-is)
    ] in
    let at = c.place_for-at.ensures in
    try_put c.args.most c.place_for-at.result t old room c.as_slice-2.result.now c.insert.new.self.items c.truncate.new.self.items c.requires.tries made
    c.as_slice-2.ensures.value at.within at.low at.high c.if-at-most.false c.in_ok-insert.ensures.items c.truncate.ensures.items
