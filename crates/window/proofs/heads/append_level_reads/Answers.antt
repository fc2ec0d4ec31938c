use Rattle.std.proofs.Common.{codes}
use Rattle.window.specs.HeadText.{said_line}
use Rattle.window.specs.Heads.{level_names, names_of}
use Rattle.window.specs.Streams.{read_name}
use Rattle.window.proofs.GrowthLemmas.{goes_on}
use Rattle.window.proofs.HeadLemmas.{noted_more}
use Rattle.window.proofs.KnownLemmas.{item_at}
use Rattle.window.proofs.heads.append_level_reads.Goals as goal

pub loop-at-preserved : goal.loop-at-preserved
loop-at-preserved c =
    goes_on c.args.text.now.items _ _ _ _ _ c.in_ok-append_read.ensures c.loop-at.invariant
    (noted_more (λ name. said_line name (codes "r") read_name) (level_names c.args.noted.now) (names_of c.args.level.now) c.loop-at.at _
    (item_at c.args.level.now.keys c.loop-at.at _ c.index.ensures _ c.as_slice.ensures.value))
