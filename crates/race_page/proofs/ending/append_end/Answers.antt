use Rattle.std.proofs.Common.{ℕ, List, ◌++◌, ap, ◌∙◌}
use Rattle.race_page.specs.Counts.{counts_text}
use Rattle.race_page.proofs.ending.append_end.Goals as goal

pub returns : goal.returns
returns c =
    let foot = c.in_ok-append_foot.ensures in
    let left = c.bytes.result.now in
    let counts = counts_text c.totals.result in
    let begun = c.in_ok-extend_from_slice.ensures.items ∙ ap (λ (xs : List ℕ). xs ++ left) c.requires in
    record {
      totals = c.totals.result;
      counted = c.totals.ensures;
      left = left;
      behind = foot.0;
      printed = foot.2 ∙ ap (λ (xs : List ℕ). xs ++ foot.0) (c.in_ok-append_counts.ensures ∙ ap (λ (xs : List ℕ). xs ++ counts) begun);
      begun = rw c.bytes.ensures.text c.bytes.ensures.piece;
      ended = foot.1;
    }
