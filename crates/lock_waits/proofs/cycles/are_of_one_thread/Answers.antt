use Rattle.std.proofs.Common.{ap, sym, ◌∙◌, Some, eqb-true, eq-eqb}
use Rattle.std.proofs.lemmas.Option.{same_Some}
use Rattle.event_index.proofs.CallerLemmas.{thread_here}
use Rattle.lock_waits.proofs.cycles.are_of_one_thread.Goals as goal

pub returns : goal.returns
returns c =
    let T = c.args.indexed.now.events in
    let v = c.event.result in
    let w = c.event-2.result in
    let of_first = thread_here T c.args.first v c.event.ensures.found in
    let of_second = thread_here T c.args.second w c.event-2.ensures.found in (
      λ so. of_first ∙ ap Some (eqb-true v.thread w.thread so) ∙ sym of_second,
      λ same. eq-eqb v.thread w.thread (same_Some v.thread w.thread (sym of_first ∙ same ∙ of_second)),
    )
