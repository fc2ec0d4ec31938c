use Rattle.std.proofs.Common.{slice_index, arith, eqb-true}
use Rattle.race_groups.proofs.ApartLemmas.{never_between}
use Rattle.race_groups.proofs.apart.is_apart.Goals as goal

pub returns-clause-never : goal.returns-clause-never
returns-clause-never c = λ holds.
    let r = c.args.indexed.now in
    never_between r c.len-len.ensures.disciplined c.apart_is_never_shown.ensures (slice_index c.args.places.now) c.args.row c.requires (omega (arith, c.if-row-ne0.false)) (eqb-true c.args.row.counts.open_pairs 0 holds)
