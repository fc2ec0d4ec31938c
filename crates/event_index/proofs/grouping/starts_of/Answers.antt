use Rattle.std.proofs.Common.{◌≡◌, ◌+◌, length, arith, sym}
use Rattle.event_index.proofs.TableLemmas.{IsTable-nil, IsTable-push}
use Rattle.event_index.proofs.RowLemmas.{start_of-zero, next_start, start_of-within}
use Rattle.event_index.proofs.grouping.starts_of.Goals as goal

pub loop-thread-init : goal.loop-thread-init
loop-thread-init c = rw c.in_ok-starts.ensures.items (IsTable-nil _, sym (start_of-zero c.args.raw.now.events))

pub overflow_add-start : goal.overflow_add-start
overflow_add-start c =
    let T = c.args.raw.now.events in
    let next = next_start T (length c.args.raw.now.threads) c.loop-thread.thread c.args.counts.now c.requires.counts (omega arith) in
    let bound = start_of-within T (c.loop-thread.thread + 1) in
    let limit = c.threads-threads.ensures.well_formed.events in
    omega (arith, c.loop-thread.invariant.1)

pub loop-thread-preserved : goal.loop-thread-preserved
loop-thread-preserved c =
    let next = next_start c.args.raw.now.events (length c.args.raw.now.threads) c.loop-thread.thread c.args.counts.now c.requires.counts (omega arith) in
    (rw c.in_ok-push.ensures.items (IsTable-push _ _ _ _ c.loop-thread.invariant.0 c.loop-thread.invariant.1), omega (arith, next, c.loop-thread.invariant.1))

pub returns : goal.returns
returns c =
    let all : c.loop-thread.thread ≡ length c.args.raw.now.threads = omega arith in
    rw (c.in_ok-push-2.ensures.items, ← all) (IsTable-push _ _ _ _ c.loop-thread.invariant.0 c.loop-thread.invariant.1)
