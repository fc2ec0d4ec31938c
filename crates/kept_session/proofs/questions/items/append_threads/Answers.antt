-- Each turn appends the item of one thread more.
use Rattle.std.proofs.Common.{◌++◌, List, ℕ, ap, sym, ◌∙◌, append_assoc}
use Rattle.kept_session.specs.QuestionItems.{thread_item, thread_items}
use Rattle.report.proofs.CallerLemmas.{lines-more}
use Rattle.kept_session.proofs.questions.items.append_threads.Goals as goal

pub loop-thread-preserved : goal.loop-thread-preserved
loop-thread-preserved c =
    let T = c.args.indexed.now.events in
    let P = c.args.schedule.now.events in
    let before = c.args.out.now.items in
    let n = c.loop-thread.thread in
    c.in_ok-append_thread.ensures
    ∙ ap (λ (text : List ℕ). text ++ thread_item T P n) c.loop-thread.invariant
    ∙ append_assoc before (thread_items T P n) (thread_item T P n)
    ∙ ap (λ (items : List ℕ). before ++ items) (sym (lines-more (thread_item T P) n))
