use Rattle.std.proofs.Common.{List, ℕ, ap, ◌∙◌}
use Rattle.race_parts.specs.Said.{known_said}
use Rattle.race_parts.proofs.cells.row_kept.Goals as goal

pub returns : goal.returns
returns c = ap (λ (l : List ℕ). known_said c.args.name.now l c.known_kept-known.result) c.piece_at-line.ensures ∙ c.known_kept-known.ensures c.args.name.now
