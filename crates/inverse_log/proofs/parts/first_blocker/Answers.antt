use Rattle.std.proofs.Common.{◌∙◌, ap, map, take}
use Rattle.moves.specs.Commands.{writes}
use Rattle.inverse_log.specs.Nearest.{nearer, nearest, next_under}
use Rattle.inverse_log.proofs.NearestLemmas.{nearest_next}
use Rattle.inverse_log.proofs.parts.first_blocker.Goals as goal

pub loop-command-preserved : goal.loop-command-preserved
loop-command-preserved c =
    let k = c.args.entry in
    let N = c.args.touches.now in
    let D = c.args.commands.now in
    let i = c.loop-command.command-index in
    let d = c.command-item.result in
    c.nearer-found.ensures
    ∙ ap (λ o. nearer o c.first_after.result c.writes-name.result) c.loop-command.invariant
    ∙ ap (λ x. nearer (nearest k N (map writes (take i D))) c.first_after.result x) c.writes-name.ensures
    ∙ ap (λ n. nearer (nearest k N (map writes (take i D))) n (writes d)) (c.first_after.ensures.first ∙ ap (next_under k N) c.writes-name.ensures)
    ∙ nearest_next k N D i d c.loop-command-test.true c.command-item.is
