use Rattle.std.proofs.Common.{◌∙◌}
use Rattle.search_pool.proofs.pool.Pool.collect.Goals as goal

pub invariant_of-self-2 : goal.invariant_of-self-2
invariant_of-self-2 g c = (
  c.take_out.ensures.pooled c.self.inside.submitted c.self.invariant.0,
  c.self.invariant.1,
  c.next_answer.ensures.channel,
  c.next_answer.ensures.kept ∙ c.self.invariant.3,
)
