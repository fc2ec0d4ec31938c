use Rattle.std.proofs.Common.{arith, refl}
use Rattle.std.proofs.lemmas.Int.Digits.{digits_more}
use Rattle.window.proofs.moving.digits_len.Goals as goal

pub digits-preserved : goal.digits-preserved
digits-preserved c = (
  omega (arith, c.digits-test.true),
  digits_more 10 c.args.text.now c.digits.len c.digits-test.true c.digits.invariant.1 (c.if-is_digit.ensures.yes refl),
)
