-- The calls so far are this client's.
use Rattle.std.proofs.Common.{◌≡◌, ◌==◌, not, take, None}
use Rattle.std.specs.List.{find}
use Rattle.script_language.specs.Scripts.{Asked}
use Rattle.script_language.proofs.script.Script.stranger.Given as goal

abbrev pub invariant-loop-at : goal.invariant-loop-at
invariant-loop-at l = find (λ (asked : Asked). not (asked.client == l.client)) (take l.at l.self) ≡ None
