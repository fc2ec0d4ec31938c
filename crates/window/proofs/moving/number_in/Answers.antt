use Rattle.std.proofs.Common.{◌+◌, arith, refl}
use Rattle.std.proofs.lemmas.Int.Digits.{digits_value_more}
use Rattle.std.proofs.lemmas.Str.Parse.{digit_at, digits_value-take-le}
use Rattle.window.proofs.moving.number_in.Goals as goal

pub with_digit-requires-clause-low : goal.with_digit-requires-clause-low
with_digit-requires-clause-low c = (digit_at c.args.digits.now c.loop-at.at c.requires c.loop-at-test.true).0

pub with_digit-requires-clause-high : goal.with_digit-requires-clause-high
with_digit-requires-clause-high c = (digit_at c.args.digits.now c.loop-at.at c.requires c.loop-at-test.true).1

pub returns-in_default-clause-none : goal.returns-in_default-clause-none
returns-in_default-clause-none c none =
    omega (
      arith,
      c.loop-at.invariant,
      c.in_default.ensures.none refl,
      digits_value_more 10 c.args.digits.now c.loop-at.at c.loop-at-test.true,
      digits_value-take-le 10 c.args.digits.now (c.loop-at.at + 1) (omega arith),
    )

pub loop-at-preserved : goal.loop-at-preserved
loop-at-preserved c =
    omega (arith, c.loop-at.invariant, c.in-Some.ensures.some, digits_value_more 10 c.args.digits.now c.loop-at.at c.loop-at-test.true)
