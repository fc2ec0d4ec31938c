use Rattle.std.proofs.Common.{ℕ, length, slice_index, subst, sym}
use Rattle.race_groups.specs.Basis.{AreInTurn, AreJoined}
use Rattle.race_groups.proofs.TurnLemmas.{AreJoined-first, part_is}
use Rattle.race_groups.proofs.counted.count_cuts.Goals as goal

pub are_all-requires-clause-joined : goal.are_all-requires-clause-joined
are_all-requires-clause-joined c =
    let b = c.of-basis.result in
    let rows = c.in-Ok.rows in
    let part = part_is b (slice_index c.args.places.now) c.args.limit b.from c.count_in_turn.result rows c.in-Ok.is c.count_in_turn.ensures in
    let first = subst (λ (w : ℕ). AreInTurn b w (length b.indexed.now.threads) rows) c.of-basis.ensures.from part in
    subst (λ (n : ℕ). AreJoined b n rows) (sym c.of-basis.ensures.every) (AreJoined-first b c.of-basis.ensures.basis rows first)
