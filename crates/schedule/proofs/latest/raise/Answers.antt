use Rattle.std.proofs.Common.{◌≤◌, refl, sym, ap, subst, ◌∙◌, cond}
use Rattle.rapid_text.specs.Limits.{event_limit}
use Rattle.schedule.specs.Keys.{key_eq}
use Rattle.schedule.specs.LatestTables.{held, changed}
use Rattle.schedule.specs.Tables.{depth_of, raised}
use Rattle.schedule.proofs.SlotLemmas.{changed_own}
use Rattle.schedule.proofs.latest.raise.Goals as goal

pub returns : goal.returns
returns c =
    let o = held c.args.latest.now c.args.key in
    λ q. c.change.ensures q
    ∙ ap (λ r. cond (key_eq c.args.key q) (changed r o) (held c.args.latest.now q)) (c.raised.ensures ∙ ap raised c.get-kept.ensures)
    ∙ ap (λ r. cond (key_eq c.args.key q) r (held c.args.latest.now q)) (changed_own raised refl o)

pub raised-requires : goal.raised-requires
raised-requires c = subst (λ o. depth_of o ≤ event_limit) (sym c.get-kept.ensures) (c.requires c.args.key)
