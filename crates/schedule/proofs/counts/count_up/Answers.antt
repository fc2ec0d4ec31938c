use Rattle.std.proofs.Common.{◌≡◌, ◌+◌, ◌==◌, cond, ap, ◌∙◌, arith, rules}
use Rattle.schedule.specs.Counts.{count_in}
use Rattle.schedule.proofs.ThreadCounts.{count_in-place, count_in-set}
use Rattle.schedule.proofs.counts.count_up.Goals as goal

pub overflow_add-count : goal.overflow_add-count
overflow_add-count c =
    let here = count_in-place c.args.counts.now.items c.requires.order c.args.thread c.args.at c.index.result.now c.requires.place in
    let small = c.requires.small in
    search (rules, arith, here, small)

pub returns-clause-count : goal.returns-clause-count
returns-clause-count c = λ t.
    let cs = c.args.counts.now.items in
    let here = count_in-place cs c.requires.order c.args.thread c.args.at c.index.result.now c.requires.place in
    let more : c.index.result.now.count + 1 ≡ count_in cs c.args.thread + 1 = search (rules, arith, here) in
    count_in-set cs c.requires.order c.args.thread c.args.at (c.index.result.now.count + 1) c.requires.place t
    ∙ ap (λ n. cond (c.args.thread == t) n (count_in cs t)) more
