use Rattle.std.proofs.Common.{◌++◌, ap, ◌∙◌}
use Rattle.moves.proofs.RisingLemmas.{pushed}
use Rattle.moves.proofs.rising.Rising.push.Goals.{in-Ok, in-Err}
use Rattle.moves.proofs.rising.Rising.push.Goals as goal

pub returns-clause-ok : goal.returns-clause-ok
returns-clause-ok c =
    let older = c.self.inside.older.entries in
    let young = c.self.inside.young.items in
    elim c.match-push.branch [
      | in-Ok w ↦ rw w.result-is (ap (λ F. older ++ F) w.in-Ok.ensures.items ∙ pushed older young c.args.self.now c.args.age c.args.held c.self.view_is c.requires)
      | in-Err w ↦ rw w.result-is tt
    ]
