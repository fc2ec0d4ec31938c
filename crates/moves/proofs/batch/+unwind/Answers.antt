use Rattle.std.proofs.Common.{arith, subst}
use Rattle.moves.specs.Batches.{AreOfTrace}
use Rattle.moves.specs.Inverses.{IsTurned}
use Rattle.moves.proofs.BackLemmas.{of_trace-turned}
use Rattle.moves.proofs.BirthLemmas.{is_done}
use Rattle.moves.proofs.SpareLemmas.{spare_free, spare_earlier}
use Rattle.moves.proofs.TurnAllLemmas.{all_earlier, turn_rest}
use Rattle.moves.proofs.batch.+unwind.Goals as goal

pub unwind-requires : goal.unwind-requires
unwind-requires t c =
    let T = c.args.indexed.now in
    let i = c.in-Some.inverse in
    let rest = c.pop.new.self.items in
    let is = c.in-Some.ensures.items in
    let both = all_earlier T rest i (subst (AreOfTrace T) is c.requires.inverses) in
    let spare = spare_earlier c.args.inverses.items rest i is c.requires.spare in
    let turned : IsTurned i.name i.step c.args.rows.now c.take_back.new.self = is_done c.take_back.result _ (c.take_back.ensures.succeeds (spare_free i.step spare.1)) c.take_back.ensures.ok in (
      omega (arith, c.in-Some.ensures.len),
      (
        of_trace-turned T i.name i.step c.args.rows.now c.take_back.new.self both.1 c.requires.of_trace turned,
        (both.0, (turn_rest c.args.inverses.items rest i is c.args.rows.now c.take_back.new.self c.requires.fits turned, spare.0)),
      ),
    )
