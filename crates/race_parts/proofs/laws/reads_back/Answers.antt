use Rattle.std.proofs.Common.{arith, rules}
use Rattle.race_parts.proofs.ReadBackLemmas.{reads_back}
use Rattle.race_parts.proofs.laws.reads_back.Goals as goal

pub returns : goal.returns
returns c = record {
  same = λ ok. reads_back c.args.parts.now c.args.cells.now
      (record { parts = omega (arith, c.len.ensures.len, c.len.ensures.small); pairs = search rules; cells_are = c.look_at.ensures })
      ok c.len.ensures.ordered;
}
