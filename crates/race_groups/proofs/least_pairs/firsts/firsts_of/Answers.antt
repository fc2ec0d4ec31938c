use Rattle.std.proofs.Common.{slice_index, arith}
use Rattle.race_groups.proofs.least_pairs.FirstLemmas.{AreFirstsHeld-more, IsLeastPair-from, all_held}
use Rattle.race_groups.proofs.least_pairs.firsts.firsts_of.Goals as goal

pub loop-variable-preserved : goal.loop-variable-preserved
loop-variable-preserved c =
    let r = c.args.indexed.now in
    let noted = c.in_ok-note_variable.ensures.noted in
    record {
      firsts = noted.firsts;
      held = AreFirstsHeld-more r (slice_index c.args.places.now) c.args.groups.now.rows.items c.loop-variable.firsts.items c.note_variable.new.firsts.items c.loop-variable.variable noted
          c.loop-variable.invariant.held c.in_ok-note_variable.ensures.held;
    }

pub returns-clause-firsts : goal.returns-clause-firsts
returns-clause-firsts c =
    let r = c.args.indexed.now in
    let place = slice_index c.args.places.now in
    let rows = c.args.groups.now.rows.items in
    let firsts = c.loop-variable.firsts.items in
    let end = c.variables-variable-end.ensures in
    IsLeastPair-from r place rows firsts c.loop-variable.invariant.firsts c.requires.groups.rows_are c.requires.groups.once
    (all_held r end.well_formed place rows firsts
    (λ y low. c.loop-variable.invariant.held y (omega (arith, low, end.len, c.loop-variable-test.false))))
