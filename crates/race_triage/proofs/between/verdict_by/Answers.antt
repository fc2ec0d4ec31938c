use Rattle.std.proofs.Common.{Err, ap, slice_index, arith}
use Rattle.race_triage.proofs.BetweenLemmas.{few_pairs}
use Rattle.race_triage.specs.Limits.{place_pair_limit}
use Rattle.race_triage.proofs.between.verdict_by.Goals as goal

pub unreachable-requires : goal.unreachable-requires
unreachable-requires c =
    let few = few_pairs c.args.tables.indexed.now.events (slice_index c.args.tables.places.now) c.requires.few place_pair_limit (c.in-Err-TooMany.ensures.too_many (ap Err c.in-Err-TooMany.field-0-is)) in
    omega (arith, few)
