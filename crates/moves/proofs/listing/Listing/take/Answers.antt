use Rattle.std.proofs.Common.{sym, ap, ◌∙◌}
use Rattle.std.specs.Map.{values_of}
use Rattle.moves.specs.Rows.{row_of}
use Rattle.moves.proofs.RowLemmas.{removed_none, removed_same}
use Rattle.moves.proofs.BirthLemmas.{rises_held, none_held, held_take, taken_there, taken_row}
use Rattle.moves.proofs.listing.Listing.take.Goals as goal

pub returns-in_err-birth-clause-rows : goal.returns-in_err-birth-clause-rows
returns-in_err-birth-clause-rows c =
    let N = c.self.inside.births.entries in
    let T = c.self.inside.rows in
    rw (← c.self.view_is) (sym (removed_none (values_of T) c.args.name.now (none_held N T c.self.invariant c.args.name.now (sym c.in_err-birth.ensures.value))))

pub unwrap-row-requires : goal.unwrap-row-requires
unwrap-row-requires c =
    taken_there c.self.inside.births.entries c.self.inside.rows c.self.invariant c.args.name.now c.in_ok-birth.birth c.remove.result (sym c.in_ok-birth.ensures.value) (rw c.age.ensures at c.remove.ensures.value)

pub invariant_of-self-2 : goal.invariant_of-self-2
invariant_of-self-2 c =
    let N = c.self.inside.births.entries in
    let T = c.self.inside.rows in
    (held_take N T c.self.invariant c.take_birth.new.births.entries c.remove.new.self c.args.name.now c.in_ok-birth.birth (sym c.in_ok-birth.ensures.value) (rw c.age.ensures at c.remove.ensures.entries) c.in_ok-birth.ensures.updates).1

pub returns-clause-row : goal.returns-clause-row
returns-clause-row c =
    let N = c.self.inside.births.entries in
    let T = c.self.inside.rows in
    rw (← c.self.view_is) (taken_row N T c.self.invariant c.args.name.now c.in_ok-birth.birth c.unwrap-row.result (sym c.in_ok-birth.ensures.value) (rw c.age.ensures at (sym c.remove.ensures.value ∙ c.unwrap-row.ensures)))

pub returns-clause-rows : goal.returns-clause-rows
returns-clause-rows c =
    let N = c.self.inside.births.entries in
    let T = c.self.inside.rows in
    rw (← c.self.view_is) (
    (held_take N T c.self.invariant c.take_birth.new.births.entries c.remove.new.self c.args.name.now c.in_ok-birth.birth (sym c.in_ok-birth.ensures.value) (rw c.age.ensures at c.remove.ensures.entries) c.in_ok-birth.ensures.updates).0
    )

pub returns-in_err-birth-clause-gone : goal.returns-in_err-birth-clause-gone
returns-in_err-birth-clause-gone c = none_held c.self.inside.births.entries c.self.inside.rows c.self.invariant c.args.name.now (sym c.in_err-birth.ensures.value)

pub returns-clause-gone : goal.returns-clause-gone
returns-clause-gone c =
    let N = c.self.inside.births.entries in
    let T = c.self.inside.rows in
    ap (λ U. row_of U c.args.name.now)
    ((held_take N T c.self.invariant c.take_birth.new.births.entries c.remove.new.self c.args.name.now c.in_ok-birth.birth (sym c.in_ok-birth.ensures.value) (rw c.age.ensures at c.remove.ensures.entries) c.in_ok-birth.ensures.updates).0)
    ∙ removed_same (values_of T) c.args.name.now c.self.invariant.listing

pub remove-requires : goal.remove-requires
remove-requires c = record { rises = rises_held c.self.inside.births.entries c.self.inside.rows c.self.invariant }
