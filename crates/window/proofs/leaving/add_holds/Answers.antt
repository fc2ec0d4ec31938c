use Rattle.std.proofs.Common.{◌<◌, ◌≡◌, ◌++◌, length, ap, arith, ◌∙◌, sym, subst, slice_index_or}
use Rattle.std.proofs.lemmas.Option.{slice_get_read, get_or_from_slice_get}
use Rattle.rapid_text.specs.Recording.{Recording}
use Rattle.window.specs.Tables.{AreHeld, all_takes, takes_of}
use Rattle.window.proofs.GrowthLemmas.{goes_on}
use Rattle.window.proofs.LeavingLemmas.{flat_more}
use Rattle.window.proofs.leaving.add_holds.Goals as goal

pub loop-lock-preserved : goal.loop-lock-preserved
loop-lock-preserved c =
    let r = c.args.trace.now in
    let l = c.loop-lock.lock in
    let items = c.in_ok-held.held.items in
    let lt : l < length r.locks = omega (arith, c.loop-lock-test.true, c.locks-lock-end.ensures.len, ap (λ (s : Recording). length s.locks) c.raw-2.ensures.same) in
    let at = slice_get_read items (length r.locks) l _ (sym c.in_ok-held.ensures.len) lt c.index.ensures in
    goes_on c.args.events.now.items _ _ _ _ _
    (c.in_ok-add_takes.ensures ∙ ap (λ h. c.loop-lock.events.items ++ takes_of h l) (sym (get_or_from_slice_get items l _ (record { thread = 0; depth = 0 }) at)))
    c.loop-lock.invariant
    (flat_more (λ i. takes_of (slice_index_or items i (record { thread = 0; depth = 0 })) i) l)

pub returns : goal.returns
returns c =
    let r = c.args.trace.now in
    let items = c.in_ok-held.held.items in
    let len = c.len.ensures.len ∙ ap (λ (s : Recording). length s.events) c.raw.ensures.same in
    let locks : c.loop-lock.lock ≡ length r.locks =
    omega (arith, c.loop-lock-test.false, c.loop-lock.auto, c.locks-lock-end.ensures.len, ap (λ (s : Recording). length s.locks) c.raw-2.ensures.same) in
    (items, subst (λ n. AreHeld r.events n (length r.locks) items) len c.in_ok-held.ensures, c.loop-lock.invariant ∙ ap (λ n. c.args.events.now.items ++ all_takes items n) locks)
