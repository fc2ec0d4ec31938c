use Rattle.std.proofs.Common.{codes, arith}
use Rattle.window.specs.HeadText.{said_line}
use Rattle.window.specs.Heads.{level_names, names_of}
use Rattle.window.specs.Streams.{read_name}
use Rattle.window.proofs.GrowthLemmas.{goes_on}
use Rattle.window.proofs.LevelLemmas.{level_at, lines_level}
use Rattle.window.proofs.heads.append_all_reads.Goals as goal

pub loop-at-preserved : goal.loop-at-preserved
loop-at-preserved c =
    goes_on c.args.text.now.items _ _ _ _ _ c.in_ok-append_level_reads.ensures c.loop-at.invariant
    (lines_level names_of c.args.noted.now.levels.items (λ name. said_line name (codes "r") read_name) (level_names c.args.noted.now) c.loop-at.at _
    (level_at c.args.noted.now.levels.items c.loop-at.at c.index.result.now (omega (arith, c.loop-at-test.true, c.len-at-end.ensures)) c.index.ensures))
