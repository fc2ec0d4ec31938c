use Rattle.std.proofs.Common.{length, refl}
use Rattle.std.proofs.lemmas.Bool.{eqb-true}
use Rattle.std.proofs.lemmas.Option.{slice_get_read}
use Rattle.race_groups.proofs.least_pairs.lanes.is_class.Goals as goal

pub returns-in-Some : goal.returns-in-Some
returns-in-Some c = λ same.
    let bunches = c.args.bunches.now in
    let bunch = c.in-Some.found.now in
    let told = c.in-Some.ensures.lookup in
    record {
      bunch = bunch;
      at = slice_get_read bunches (length bunches) c.args.number bunch refl told.3.0 told.1;
      class_is = eqb-true bunch.class c.args.class same;
    }
