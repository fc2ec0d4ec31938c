use Rattle.std.proofs.Common.{◌<◌, length, sym, ap, arith, ◌∙◌}
use Rattle.std.proofs.lemmas.Option.{slice_get_read}
use Rattle.rapid_text.specs.Recording.{Recording}
use Rattle.event_index.proofs.TableLemmas.{get_or-IsTable}
use Rattle.window.specs.Made.{touch_count}
use Rattle.window.proofs.GrowthLemmas.{made_on}
use Rattle.window.proofs.PrologueLemmas.{bounded_of, piece_is, pieces_more}
use Rattle.window.proofs.prologue.holds_in.Goals as goal

pub loop-lock-preserved : goal.loop-lock-preserved
loop-lock-preserved c =
    let r = c.args.trace.now in
    let T = r.events in
    let bounds = bounded_of r c.raw.ensures.well_formed in
    let l = c.loop-lock.lock in
    let lt : l < length r.locks = omega (arith, c.loop-lock-test.true, c.locks-lock-end.ensures.len, ap (λ (s : Recording). length s.locks) c.raw.ensures.same) in
    let held = c.in_ok-held.ensures in
    let is = held.at l _ (slice_get_read _ (length r.locks) l _ (sym held.len) lt c.index.ensures) in
    let count = c.index-in-loop-lock.ensures ∙ get_or-IsTable (touch_count T c.args.from c.args.to) _ _ c.in_ok-touches.ensures l _ lt in
    made_on _ _ _ _ _ _ c.in_ok-add_holds.ensures c.loop-lock.invariant
    (piece_is T (length r.threads) (length r.locks) bounds c.args.from c.args.to c.requires.from c.requires.to l _ _ is count)
    (pieces_more T (length r.threads) (length r.locks) bounds c.args.from c.args.to c.requires.from c.requires.to l)
