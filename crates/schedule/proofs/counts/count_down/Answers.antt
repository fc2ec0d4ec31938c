use Rattle.std.proofs.Common.{◌≡◌, ◌-◌, ◌==◌, cond, ap, ◌∙◌, arith, rules}
use Rattle.schedule.specs.Counts.{count_in, IsPlaceOf, IsGapFor}
use Rattle.schedule.proofs.ThreadCounts.{count_in-place, count_in-none, count_in-set}
use Rattle.schedule.proofs.counts.count_down.Goals as goal

pub returns-in_default-clause-count : goal.returns-in_default-clause-count
returns-in_default-clause-count c = λ t.
    let gap : IsGapFor c.args.counts.now.items c.args.thread c.in_default.field-0 = search rules in
    count_in-none c.args.counts.now.items c.args.thread c.in_default.field-0 gap t

pub returns-clause-count : goal.returns-clause-count
returns-clause-count c = λ t.
    let cs = c.args.counts.now.items in
    let place : IsPlaceOf cs c.args.thread c.in-Ok.at = search rules in
    let here = count_in-place cs c.requires c.args.thread c.in-Ok.at c.index.result.now place in
    let less : c.saturating_sub-count.result ≡ count_in cs c.args.thread - 1 = search (rules, arith, here) in
    count_in-set cs c.requires c.args.thread c.in-Ok.at c.saturating_sub-count.result place t
    ∙ ap (λ n. cond (c.args.thread == t) n (count_in cs t)) less
