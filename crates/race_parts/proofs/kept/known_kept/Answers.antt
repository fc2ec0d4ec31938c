use Rattle.std.proofs.Common.{List, ℕ, ap, ◌∙◌}
use Rattle.race_parts.specs.Kept.{piece_in}
use Rattle.race_parts.specs.Said.{Said}
use Rattle.race_parts.proofs.kept.known_kept.Goals as goal

pub returns : goal.returns
returns c name =
    let row = c.args.row in
    let text = c.args.text.now in
    let said : List ℕ → List ℕ → Said = λ one other. record {
      part = name;
      line = piece_in text row.line;
      one = one;
      other = other;
      rank = row.rank;
      size = row.size;
      later = row.later;
      earlier = row.earlier;
    } in
    ap (λ (x : List ℕ). said x c.piece_at-other.result.now) c.piece_at-one.ensures ∙ ap (said (piece_in text row.one)) c.piece_at-other.ensures
