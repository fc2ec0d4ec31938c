use Rattle.std.proofs.Common.{arith, sym, ◌∙◌}
use Rattle.triage_file.proofs.SpotLemmas.{barren_more}
use Rattle.triage_file.proofs.spots.key_in.Goals as goal

pub loop-at-preserved : goal.loop-at-preserved
loop-at-preserved c = (
  omega (arith, c.loop-at.invariant.0),
  barren_more c.args.key.now c.args.text.now c.args.start c.loop-at.at c.loop-at.invariant.1 (sym c.is_key_at.ensures ∙ c.if-is_key_at.false) (sym c.is_header_at.ensures ∙ c.if-is_header_at.false),
)
