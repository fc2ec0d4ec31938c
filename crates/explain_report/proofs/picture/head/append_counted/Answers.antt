use Rattle.std.proofs.Common.{List, ℕ, ◌++◌, append_assoc, append-nil, ap, ◌∙◌}
use Rattle.explain_report.proofs.picture.head.append_counted.Goals as goal

pub returns : goal.returns
returns c =
    c.in_ok-append_pieces.ensures ∙ ap (λ (text : List ℕ). c.args.out.now.items ++ text) (simp (append_assoc, append-nil))
