use Rattle.std.proofs.Common.{sym, arith, rules}
use Rattle.window.specs.Heads.{names_of}
use Rattle.window.proofs.LevelLemmas.{in_level, level_at}
use Rattle.window.proofs.levels.is_noted.Goals as goal

pub returns-then-is_in : goal.returns-then-is_in
returns-then-is_in c =
    let levels = c.args.names.now.levels.items in
    let at = level_at levels c.loop-at.at c.index.result.now (omega (arith, c.loop-at-test.true, c.len-at-end.ensures)) c.index.ensures in
    sym (in_level names_of levels c.loop-at.at _ c.args.name.now at (search rules))
