use Rattle.std.proofs.Common.{◌+◌, ◌<◌, length, slice_index, refl, arith}
use Rattle.std.proofs.lemmas.Option.{slice_get-get_or}
use Rattle.race_groups.proofs.least_pairs.UseLemmas.{IsRun-more}
use Rattle.race_groups.proofs.least_pairs.uses.run_at.Goals as goal

pub returns-then-are_of_one_thread : goal.returns-then-are_of_one_thread
returns-then-are_of_one_thread c =
    let uses = c.args.uses.now in
    let at = c.args.at in
    let one = c.if-are_of_one_thread.ensures refl in
    let more : at + 1 < length uses = omega (arith, c.requires.at, c.if-next-uses.false) in
    IsRun-more uses at (slice_index c.args.runs.now (at + 1)) one.0 _ _ (slice_get-get_or uses at _ c.requires.at) (slice_get-get_or uses (at + 1) _ more) one.1 one.2
    (c.requires.runs (at + 1) (omega arith) more)
