use Rattle.std.proofs.Common.{rules}
use Rattle.race_parts.proofs.LineLemmas.{begin_stops}
use Rattle.race_parts.proofs.lines.begin.Goals as goal

pub returns-in-Err-clause-err : goal.returns-in-Err-clause-err
returns-in-Err-clause-err c = begin_stops c.args.text.now c.in-Err.refusal c.requires (search rules)
