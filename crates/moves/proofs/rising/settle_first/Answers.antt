use Rattle.std.proofs.Common.{◌++◌, ◌<◌, length, ap, ◌∙◌, rules}
use Rattle.std.specs.BTreeMap.{insert_entry}
use Rattle.std.specs.Ordering.{nat_cmp}
use Rattle.moves.proofs.RisingLemmas.{settled}
use Rattle.moves.proofs.rising.settle_first.Goals as goal

pub returns-in_default-clause-same : goal.returns-in_default-clause-same
returns-in_default-clause-same c =
    let e = c.remove-age.result in
    let some : 0 < length c.args.young.now.items = search rules in
    ap (λ F. F ++ c.remove-age.new.self.items) c.in_default.ensures.entries ∙ ap (λ F. insert_entry nat_cmp c.args.older.now.entries e.0 e.1 ++ F) c.remove-age.ensures.items
    ∙ settled c.args.older.now.entries c.args.young.now.items e c.requires.rises some c.remove-age.ensures.value
