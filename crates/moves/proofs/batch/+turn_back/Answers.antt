use Rattle.std.proofs.Common.{arith, subst}
use Rattle.moves.specs.declared.inverse.Inverse.{Inverse}
use Rattle.moves.specs.Batches.{AreOfTrace}
use Rattle.moves.specs.Inverses.{IsTurned}
use Rattle.moves.proofs.BackLemmas.{of_trace-turned}
use Rattle.moves.proofs.TurnAllLemmas.{all_earlier, turn_rest}
use Rattle.moves.proofs.batch.+turn_back.Goals as goal

pub turn_back-requires : goal.turn_back-requires
turn_back-requires t c =
    let T = c.args.indexed.now in
    let is = c.in-Some.ensures.cases in
    let turned = subst (λ (i : Inverse). IsTurned i.name i.step c.args.rows.now c.take_back.new.self) c.in_ok-inverse.ensures c.in-Ok.ensures.ok in
    let both = all_earlier T c.in-Some.earlier.now c.in-Some.last.now (subst (AreOfTrace T) is.0 c.requires.inverses) in (
      omega (arith, is.1),
      (
        of_trace-turned T c.in-Some.last.now.name c.in-Some.last.now.step c.args.rows.now c.take_back.new.self both.1 c.requires.of_trace turned,
        (both.0, turn_rest c.args.inverses.now c.in-Some.earlier.now c.in-Some.last.now is.0 c.args.rows.now c.take_back.new.self c.requires.fits turned),
      ),
    )
