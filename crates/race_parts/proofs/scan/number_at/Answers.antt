use Rattle.std.proofs.Common.{arith}
use Rattle.race_parts.proofs.DigitLemmas.{digit_first, digit_more}
use Rattle.race_parts.proofs.scan.number_at.Goals as goal

pub digits-init : goal.digits-init
digits-init c =
    let digit = c.in_ok-number.ensures.digit in
    (digit_first c.args.text.now c.in_ok-number.number c.in_ok-number.ensures.inside digit.0 digit.1, omega (arith, c.in_ok-number.ensures.inside), omega (arith, digit.0))

pub digits-preserved : goal.digits-preserved
digits-preserved c =
    let digit = c.in-Some.ensures.digit in
    let number = c.in-Some.ensures.number in (
      digit_more c.args.text.now c.digits.at c.digits.number c.in-Some.digit c.digits.invariant.0 c.in-Some.ensures.inside number.0 number.1 digit.0 digit.1,
      omega (arith, c.in-Some.ensures.inside),
      omega (arith, number.1, digit.0),
    )
