use Rattle.race_parts.proofs.MergingLemmas.{empty_part}
use Rattle.race_parts.proofs.merging.check_text.Goals as goal

pub returns-then-is_empty-clause-err : goal.returns-then-is_empty-clause-err
returns-then-is_empty-clause-err c = empty_part c.args.text.now c.if-is_empty.ensures
