use Rattle.std.proofs.Common.{◌≤◌, length, rules}
use Rattle.schedule.specs.Reordering.{IsCorrectReordering}
use Rattle.schedule.proofs.CallerLemmas.{IsCorrectReordering-take}
use Rattle.schedule.proofs.schedule.Schedule.front_tables.Goals as goal

pub tables_of-requires : goal.tables_of-requires
tables_of-requires c =
    let T = c.args.indexed.now.events in
    let P = c.events-2.result.now in
    let is : IsCorrectReordering T P = search rules in
    let fits : c.args.len ≤ length P = search rules in
    IsCorrectReordering-take T P c.args.len fits is
