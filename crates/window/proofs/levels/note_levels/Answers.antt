use Rattle.std.proofs.Common.{arith}
use Rattle.window.specs.Heads.{names_of}
use Rattle.window.proofs.LevelLemmas.{level_at, noted_level}
use Rattle.window.proofs.levels.note_levels.Goals as goal

pub loop-at-preserved : goal.loop-at-preserved
loop-at-preserved c =
    noted_level names_of c.args.levels.now (names_of c.note_all.new.names) (names_of c.loop-at.names) (names_of c.args.names.now) c.loop-at.at _
    (level_at c.args.levels.now c.loop-at.at c.index-levels-at.result (omega (arith, c.loop-at-test.true)) c.index-levels-at.is)
    c.in_ok-note_all.ensures c.loop-at.invariant
