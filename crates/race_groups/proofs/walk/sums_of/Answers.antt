use Rattle.std.proofs.Common.{◌∙◌}
use Rattle.race_groups.specs.Shared.{is_sharing}
use Rattle.race_groups.proofs.EachPartLemmas.{nothing_kept}
use Rattle.race_groups.proofs.walk.sums_of.Goals as goal

pub returns-then-share-eq0 : goal.returns-then-share-eq0
returns-then-share-eq0 c = λ k. c.sums.ensures k ∙ nothing_kept k c.args.share (is_sharing c.args.lists.now.keys c.args.earlier.held c.args.later.held) c.if-share-eq0.true
