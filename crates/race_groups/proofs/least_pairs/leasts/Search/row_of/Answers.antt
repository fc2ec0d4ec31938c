use Rattle.std.proofs.Common.{true≢false, sym, ◌∙◌}
use Rattle.race_groups.proofs.least_pairs.leasts.Search.row_of.Goals as goal

pub returns-clause-some : goal.returns-clause-some
returns-clause-some c = λ none.
    let found = c.requires.sound.groups.complete c.args.first c.args.second c.requires.pair.earlier c.requires.pair.conflict in
    true≢false (sym found.between ∙ c.row_of.ensures.none none found.at found.row found.is)
