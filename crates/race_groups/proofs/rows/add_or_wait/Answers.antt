use Rattle.std.proofs.Common.{sym, ◌∙◌, inl, inr}
use Rattle.race_groups.specs.Rows.{of_candidates}
use Rattle.race_groups.proofs.WaitingLemmas.{count_opened, count_raised, opened_are, raised, room_within, unchanged_are}
use Rattle.race_groups.proofs.rows.add_or_wait.Goals as goal

pub returns-then-keep-clause-ok : goal.returns-then-keep-clause-ok
returns-then-keep-clause-ok c =
    count_raised c.args.waiting.now.cells.items c.keep.new.self.cells.items c.args.rows.now c.args.first c.args.second c.args.more.candidates c.requires.waiting
    (c.keep.ensures.known c.if-keep.true) (c.keep.ensures.more c.if-keep.true) c.keep.ensures.others (c.requires.room of_candidates) c.args.more (c.keep.ensures.candidates c.if-keep.true)

pub returns-then-keep-clause-waiting : goal.returns-then-keep-clause-waiting
returns-then-keep-clause-waiting c =
    raised c.args.waiting.now.cells.items c.keep.new.self.cells.items c.args.rows.now c.args.first c.args.second c.args.more.candidates c.requires.waiting
    (c.keep.ensures.known c.if-keep.true) (c.keep.ensures.more c.if-keep.true) c.keep.ensures.others (c.requires.room of_candidates)

pub add-requires-clause-rows : goal.add-requires-clause-rows
add-requires-clause-rows c = c.requires.waiting.rows

pub add-requires-clause-room : goal.add-requires-clause-room
add-requires-clause-room c = λ k p q low.
    room_within c.args.waiting.now.cells.items c.args.rows.now c.requires.waiting k p q _ low (c.requires.room k p q low)

pub returns-clause-ok : goal.returns-clause-ok
returns-clause-ok c =
    let old = c.args.waiting.now.cells.items in
    let new = c.open.new.self.cells.items in
    count_opened old new c.args.rows.now c.add.new.rows c.args.first c.args.second c.args.more c.requires.waiting c.in_ok-add.ensures.rows c.requires.more
    c.in_ok-add.ensures.ok c.requires.room
    (λ p q.
    let same = c.keep.ensures.same c.if-keep.false p q in
    elim (c.open.ensures p q) [ inl is ↦ inl (is ∙ same) | inr e ↦ inr (e.0, e.1, e.2, sym same ∙ e.3, e.4) ])

pub returns-clause-waiting : goal.returns-clause-waiting
returns-clause-waiting c =
    let old = c.args.waiting.now.cells.items in
    let new = c.open.new.self.cells.items in
    opened_are old new c.args.rows.now c.add.new.rows c.args.first c.args.second c.args.more c.requires.waiting c.in_ok-add.ensures.rows c.requires.more
    c.in_ok-add.ensures.ok c.requires.room
    (λ p q.
    let same = c.keep.ensures.same c.if-keep.false p q in
    elim (c.open.ensures p q) [ inl is ↦ inl (is ∙ same) | inr e ↦ inr (e.0, e.1, e.2, sym same ∙ e.3, e.4) ])

pub returns-in_err-add-clause-waiting : goal.returns-in_err-add-clause-waiting
returns-in_err-add-clause-waiting c =
    unchanged_are c.args.waiting.now.cells.items c.keep.new.self.cells.items c.args.rows.now c.add.new.rows c.requires.waiting c.in_err-add.ensures.err (c.keep.ensures.same c.if-keep.false)
