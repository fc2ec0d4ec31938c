use Rattle.std.proofs.Common.{refl, ap, ◌∙◌, cond}
use Rattle.schedule.specs.Keys.{key_eq}
use Rattle.schedule.specs.LatestTables.{held, changed}
use Rattle.schedule.specs.Tables.{lowered}
use Rattle.schedule.proofs.SlotLemmas.{changed_own}
use Rattle.schedule.proofs.latest.lower.Goals as goal

pub returns : goal.returns
returns c =
    let o = held c.args.latest.now c.args.key in
    λ q. c.change.ensures q
    ∙ ap (λ r. cond (key_eq c.args.key q) (changed r o) (held c.args.latest.now q)) (c.lowered.ensures ∙ ap lowered c.get-kept.ensures)
    ∙ ap (λ r. cond (key_eq c.args.key q) r (held c.args.latest.now q)) (changed_own lowered refl o)
