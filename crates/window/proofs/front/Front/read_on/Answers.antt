use Rattle.std.proofs.Common.{rules}
use Rattle.window.proofs.front.Front.read_on.Goals as goal

pub returns-in-Ok-clause-whole : goal.returns-in-Ok-clause-whole
returns-in-Ok-clause-whole c = c.is_whole.ensures.whole (search rules)
