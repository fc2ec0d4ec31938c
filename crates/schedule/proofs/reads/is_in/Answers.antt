use Rattle.std.proofs.Common.{nat_lt, ap, ◌∙◌}
use Rattle.schedule.specs.Counts.{count_in}
use Rattle.schedule.proofs.TableLemmas.{count_of}
use Rattle.schedule.proofs.TableReads.{is_in-count}
use Rattle.schedule.proofs.reads.is_in.Goals as goal

pub returns : goal.returns
returns c =
    let T = c.args.indexed.now.events in
    let P = c.args.events.now in
    let v = c.event-found.result in
    ap (nat_lt c.place.result) (c.count_at.ensures ∙ ap (λ l. count_in l v.thread) c.deref.ensures.value ∙ c.requires.tables.counts v.thread)
    ∙ ap (λ k. nat_lt k (count_of T P v.thread)) c.place.ensures.place
    ∙ is_in-count T P c.args.event v c.event-found.ensures.found c.requires.reordering.thread_order
