use Rattle.std.proofs.Common.{◌+◌, ◌^◌, ◌<◌, arith}
use Rattle.race_groups.specs.Rows.{of_all, of_candidates, of_ordered, of_guarded}
use Rattle.race_groups.proofs.rows.Sums.plus.Goals as goal

pub overflow_add-result : goal.overflow_add-result
overflow_add-result c = let room : c.args.self.all + c.args.more.all < 2 ^ 64 = c.requires.room of_all in omega (arith, room)

pub overflow_add-result-2 : goal.overflow_add-result-2
overflow_add-result-2 c = let room : c.args.self.candidates + c.args.more.candidates < 2 ^ 64 = c.requires.room of_candidates in omega (arith, room)

pub overflow_add-result-3 : goal.overflow_add-result-3
overflow_add-result-3 c = let room : c.args.self.ordered + c.args.more.ordered < 2 ^ 64 = c.requires.room of_ordered in omega (arith, room)

pub overflow_add-result-4 : goal.overflow_add-result-4
overflow_add-result-4 c = let room : c.args.self.guarded + c.args.more.guarded < 2 ^ 64 = c.requires.room of_guarded in omega (arith, room)
