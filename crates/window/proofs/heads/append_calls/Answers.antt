use Rattle.window.specs.HeadText.{said_line}
use Rattle.window.specs.Heads.{level_names}
use Rattle.window.proofs.GrowthLemmas.{goes_on}
use Rattle.window.proofs.HeadLemmas.{noted_more}
use Rattle.window.proofs.heads.append_calls.Goals as goal

pub loop-other-preserved : goal.loop-other-preserved
loop-other-preserved c =
    goes_on c.args.text.now.items _ _ _ _ _ c.in_ok-append_call.ensures c.loop-other.invariant
    (noted_more (λ name. said_line c.args.thread.now c.args.word.now name) (level_names c.args.noted.now) c.args.raw.now.threads c.loop-other.other _ c.thread_name.ensures)
