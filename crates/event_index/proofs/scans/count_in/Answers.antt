use Rattle.std.proofs.Common.{◌≡◌, ◌≤◌, arith, sym, ◌∙◌}
use Rattle.event_index.specs.Layout.{count_before}
use Rattle.event_index.proofs.TableLemmas.{get_or-IsTable}
use Rattle.event_index.proofs.StepLemmas.{count_before-more, count_before-le, place_of-count}
use Rattle.event_index.proofs.scans.count_in.Goals as goal

pub overflow_add-place : goal.overflow_add-place
overflow_add-place c =
    let T = c.args.raw.now.events in
    let t = c.event-thread.result.thread in
    let count : c.index-place.result.now ≡ count_before T c.args.event t = c.index-place.ensures ∙ get_or-IsTable (count_before T c.args.event) _ _ c.requires.table t c.index-place.result.now c.event-thread.ensures.named.0 in
    let bound : count_before T c.args.event t ≤ c.args.event = count_before-le T c.args.event t (omega arith) in
    let limit = c.requires.well_formed.events in
    omega arith

pub returns-clause-place : goal.returns-clause-place
returns-clause-place c =
    let T = c.args.raw.now.events in
    let v = c.event-thread.result in
    c.index-place.ensures
    ∙ get_or-IsTable (count_before T c.args.event) _ _ c.requires.table v.thread c.index-place.result.now c.event-thread.ensures.named.0
    ∙ sym (place_of-count T c.args.event v c.event-thread.ensures.found)

pub returns-clause-table : goal.returns-clause-table
returns-clause-table c =
    let T = c.args.raw.now.events in
    let v = c.event-thread.result in
    let count : c.index-place.result.now ≡ count_before T c.args.event v.thread = c.index-place.ensures ∙ get_or-IsTable (count_before T c.args.event) _ _ c.requires.table v.thread c.index-place.result.now c.event-thread.ensures.named.0 in
    rw count (count_before-more T c.args.event _ v _ c.event-thread.ensures.found c.requires.table)
