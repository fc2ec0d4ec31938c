use Rattle.std.proofs.Common.{not, sym, ap, ◌∙◌}
use Rattle.race_groups.proofs.SharingLemmas.{shares_itself}
use Rattle.race_groups.proofs.sharing.are_sharing.Goals as goal

pub returns-then-first-second : goal.returns-then-first-second
returns-then-first-second c =
    ap not c.is_empty.ensures
    ∙ sym (shares_itself c.args.lists.now.keys c.args.first c.args.second c.in-Some.mine.now c.as_slice.result.now (sym c.in-Some.ensures.key) c.if-first-second.true c.as_slice.ensures.value)
