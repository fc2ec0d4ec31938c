use Rattle.std.proofs.Common.{◌≡◌, ◌∙◌}
use Rattle.event_index.specs.Layout.{fork_before}
use Rattle.event_index.proofs.TableLemmas.{get_or-IsTable}
use Rattle.event_index.proofs.StepLemmas.{fork_before-more, fork_before-same}
use Rattle.event_index.proofs.scans.note_fork.Goals as goal

pub returns-in-Fork : goal.returns-in-Fork
returns-in-Fork c =
    let T = c.args.raw.now.events in
    let named = rw c.in-Fork.is at c.event.ensures.named.1 in
    let known : c.index.result.now ≡ fork_before T c.args.event c.in-Fork.thread = c.index.ensures ∙ get_or-IsTable (fork_before T c.args.event) _ _ c.requires.table c.in-Fork.thread c.index.result.now named in
    rw (c.or.ensures, known) (fork_before-more T c.args.event _ c.in-Fork.thread c.event.result _ c.event.ensures.found c.in-Fork.is c.requires.table)

pub returns-in_default : goal.returns-in_default
returns-in_default c = fork_before-same c.args.raw.now.events c.args.event _ c.event.result _ c.event.ensures.found c.in_default.not-Fork c.requires.table
