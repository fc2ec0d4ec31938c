use Rattle.std.proofs.Common.{◌≡◌, ◌==◌, Bool, true, false, not, option_map, sym, ap, ◌∙◌, rules}
use Rattle.script_language.specs.Scripts.{Asked}
use Rattle.script_language.proofs.CallerLemmas.{option_map-some}
use Rattle.script_language.proofs.FindLemmas.{find-more, find-here}
use Rattle.script_language.proofs.script.Script.stranger.Goals as goal

pub returns-then-client : goal.returns-then-client
returns-then-client c =
    let asked = option_map-some (λ (a : Asked). a.client) _ _ c.client.ensures.client in
    let other : not (asked.0.client == c.args.client) ≡ true = ap (λ n. not (n == c.args.client)) asked.2 ∙ search rules in
    sym c.line.ensures
    ∙ ap (option_map (λ (a : Asked). a.line)) (asked.1 ∙ sym (find-here (λ (a : Asked). not (a.client == c.args.client)) c.args.self.now c.loop-at.at asked.0 asked.1 other c.loop-at.invariant))

pub loop-at-preserved : goal.loop-at-preserved
loop-at-preserved c =
    let asked = option_map-some (λ (a : Asked). a.client) _ _ c.client.ensures.client in
    let own : not (asked.0.client == c.args.client) ≡ false = ap (λ n. not (n == c.args.client)) asked.2 ∙ search rules in
    find-more (λ (a : Asked). not (a.client == c.args.client)) c.args.self.now c.loop-at.at asked.0 asked.1 own c.loop-at.invariant
