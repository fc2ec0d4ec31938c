-- The numbers and the lines of the threads are the whole text.
use Rattle.std.proofs.Common.{length}
use Rattle.report.specs.Info.{info_text, counts_text, thread_lines}
use Rattle.report.proofs.LineLemmas.{appended-parts}
use Rattle.report.proofs.info_lines.info.Goals as goal

pub returns-clause-ok : goal.returns-clause-ok
unfolding info_text
returns-clause-ok c =
    let r = c.args.indexed.now in
    appended-parts c.args.out.now.items _ _ _ _ _ (counts_text r) (thread_lines r (length r.threads)) c.new-text.ensures.items c.in_ok-append_counts.ensures c.in_ok-append_threads.ensures c.deref.ensures.value c.in_ok-extend_from_slice.ensures.items
