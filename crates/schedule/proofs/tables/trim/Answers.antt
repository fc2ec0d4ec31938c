use Rattle.std.proofs.Common.{◌∙◌}
use Rattle.schedule.proofs.tables.trim.Goals as goal

pub returns : goal.returns
returns c = λ T P tables. record {
  order = tables.order;
  counts = tables.counts;
  latest = λ q. c.trim.ensures q ∙ tables.latest q;
  shadows = tables.shadows;
}
