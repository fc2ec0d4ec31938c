-- Each turn appends the line of one thread more.
use Rattle.std.proofs.Common.{◌++◌, List, ℕ, ap, sym, ◌∙◌, append_assoc}
use Rattle.report.specs.Info.{thread_line, thread_lines}
use Rattle.report.proofs.LineLemmas.{lines-more}
use Rattle.report.proofs.info_lines.append_threads.Goals as goal

pub loop-thread-preserved : goal.loop-thread-preserved
loop-thread-preserved c =
    let r = c.args.indexed.now in
    let before = c.args.out.now.items in
    let n = c.loop-thread.thread in
    c.in_ok-append_thread.ensures
    ∙ ap (λ (text : List ℕ). text ++ thread_line r n) c.loop-thread.invariant
    ∙ append_assoc before (thread_lines r n) (thread_line r n)
    ∙ ap (λ (lines : List ℕ). before ++ lines) (sym (lines-more (thread_line r) n))
