use Rattle.std.proofs.Common.{◌≡◌, refl, sym, ap, [], length, append-nil, arith, inl, inr}
use Rattle.rapid_text.specs.Recording.{Recording}
use Rattle.race_page.proofs.reasons.write_apart.Goals as goal

pub returns-then-first-events : goal.returns-then-first-events
returns-then-first-events c =
    let same : length c.indexed.result.now.events ≡ length c.args.analysis.now.events = ap (λ (r : Recording). length r.events) c.indexed.ensures in
    ([], sym (append-nil c.args.piece.now), inr (inl (omega (arith, c.if-first-events.true, c.len-events.ensures.len, same)), refl))

pub returns-then-second-events : goal.returns-then-second-events
returns-then-second-events c =
    let same : length c.indexed.result.now.events ≡ length c.args.analysis.now.events = ap (λ (r : Recording). length r.events) c.indexed.ensures in
    ([], sym (append-nil c.args.piece.now), inr (inr (omega (arith, c.if-second-events.true, c.len-events.ensures.len, same)), refl))
