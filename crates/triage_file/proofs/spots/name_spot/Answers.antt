use Rattle.std.proofs.Common.{arith, sym, ◌∙◌}
use Rattle.triage_file.specs.Spots.{IsNamePlace}
use Rattle.triage_file.proofs.SpotLemmas.{nameless_all, nameless_more}
use Rattle.triage_file.proofs.spots.name_spot.Goals as goal

pub loop-at-preserved : goal.loop-at-preserved
loop-at-preserved c = nameless_more c.args.key.now c.args.text.now c.loop-at.at c.loop-at.invariant (sym c.is_name_at.ensures ∙ c.if-is_name_at.false)

pub returns-then-is_name_at : goal.returns-then-is_name_at
returns-then-is_name_at c = (
  c.loop-at.at,
  IsNamePlace.named c.loop-at.at (omega (arith, c.loop-at-test.true)) (sym c.is_name_at.ensures ∙ c.if-is_name_at.true) c.loop-at.invariant,
  c.spot_at.ensures,
)

pub returns : goal.returns
returns c = (
  0,
  IsNamePlace.unnamed (nameless_all c.args.key.now c.args.text.now c.loop-at.at (omega (arith, c.loop-at-test.false)) c.loop-at.invariant),
  c.spot_at-2.ensures,
)
