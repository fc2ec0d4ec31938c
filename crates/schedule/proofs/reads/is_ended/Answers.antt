use Rattle.std.proofs.Common.{◌≡◌, ◌&&◌, true, false, ap, sym, ◌∙◌, nat_eq, length}
use Rattle.std.specs.List.{list_all}
use Rattle.event_index.specs.Lookups.{events_of}
use Rattle.schedule.specs.Refusals.{is_in, is_forked}
use Rattle.schedule.proofs.ThreadLemmas.{all_in-count}
use Rattle.schedule.proofs.reads.is_ended.Goals as goal

pub returns-then-all_in : goal.returns-then-all_in
returns-then-all_in c =
    let T = c.args.indexed.now.events in
    let P = c.args.events.now in
    let count = c.requires.tables.counts c.args.thread in
    let same = all_in-count T P c.args.thread (c.requires.reordering.thread_order c.args.thread) in
    let all : list_all (is_in P) (events_of T c.args.thread) ≡ true = cc in
    c.is_forked.ensures ∙ ap (λ b. b && is_forked T P c.args.thread) (sym all)

pub returns-else-all_in : goal.returns-else-all_in
returns-else-all_in c =
    let T = c.args.indexed.now.events in
    let P = c.args.events.now in
    let count = c.requires.tables.counts c.args.thread in
    let same = all_in-count T P c.args.thread (c.requires.reordering.thread_order c.args.thread) in
    let some_missing : list_all (is_in P) (events_of T c.args.thread) ≡ false = cc in
    let fails : nat_eq c.count_at-count.result (length c.thread_events.result.now) ≡ false = cc in
    fails ∙ ap (λ b. b && is_forked T P c.args.thread) (sym some_missing)
