use Rattle.std.proofs.Common.{◌≡◌, ◌∙◌, ◌∷◌, [], sym, ap}
use Rattle.moves.specs.declared.inverse.Inverse.{Inverse}
use Rattle.moves.proofs.TurnAllLemmas.{one_traced}
use Rattle.inverse_log.specs.declared.kept.Held.TheVariants.{One}
use Rattle.inverse_log.specs.Steps.{inverses_of}
use Rattle.inverse_log.proofs.counted.turn_back.Goals as goal

pub revoke-requires-clause-step : goal.revoke-requires-clause-step
revoke-requires-clause-step g c =
    let i : Inverse = record { name = c.writes-name.result; step = c.in-One.step } in
    let one : inverses_of c.args.held c.args.commands.now ≡ i ∷ [] =
    ap (λ h. inverses_of h c.args.commands.now) c.in-One.is ∙ ap (inverses_of (One c.in-One.step)) c.in-Some.ensures.cases.0
    ∙ ap (λ x. record { name = x; step = c.in-One.step } ∷ []) (sym c.writes-name.ensures) in
    one_traced (inverses_of c.args.held c.args.commands.now) i one c.args.indexed.now c.requires.steps
