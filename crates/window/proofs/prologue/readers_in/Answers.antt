use Rattle.std.proofs.Common.{◌<◌, ◌&&◌, not, length, ap, arith, ◌∙◌, cond, ◌∷◌, []}
use Rattle.rapid_text.specs.Recording.{Recording}
use Rattle.event_index.proofs.TableLemmas.{get_or-IsTable}
use Rattle.window.specs.Tables.{has_thread, has_fork}
use Rattle.window.proofs.GrowthLemmas.{made_on}
use Rattle.window.proofs.PrologueLemmas.{bounded_of, readers_more}
use Rattle.window.proofs.prologue.readers_in.Goals as goal

pub loop-thread-preserved : goal.loop-thread-preserved
loop-thread-preserved c =
    let r = c.args.trace.now in
    let T = r.events in
    let bounds = bounded_of r c.raw.ensures.well_formed in
    let t = c.loop-thread.thread in
    let lt : t < length r.threads = omega (arith, c.loop-thread-test.true, c.threads-thread-end.ensures.len, ap (λ (s : Recording). length s.threads) c.raw.ensures.same) in
    let found = c.index.ensures ∙ get_or-IsTable (has_thread T c.args.from c.args.to) _ _ c.in_ok-found.ensures t _ lt in
    let forked = c.index-in-loop-thread.ensures ∙ get_or-IsTable (has_fork T c.args.from c.args.to) _ _ c.in_ok-forked.ensures t _ lt in
    made_on _ _ _ _ _ _ c.in_ok-add_reader.ensures c.loop-thread.invariant
    (ap (λ b. cond b (t ∷ []) []) (c.is_reader-waits.ensures ∙ ap (λ b. b && not c.index-in-loop-thread.result.now) found ∙ ap (λ b. has_thread T c.args.from c.args.to t && not b) forked))
    (readers_more T (length r.threads) (length r.locks) bounds c.args.from c.args.to c.requires.from c.requires.to t)
