use Rattle.std.proofs.Common.{◌≡◌, ◌∙◌, Bool, true, false, not, refl, ap, subst}
use Rattle.std.specs.Bool.{IsTrue}
use Rattle.std.specs.Prelude.{◌↔◌}
use Rattle.kept_log.specs.Lines.{IsLine}
use Rattle.kept_log.proofs.LineLemmas.{is_line_by}
use Rattle.kept_log.proofs.block.is_line.Goals as goal

not_not : (b : Bool) → not (not b) ≡ b
not_not true = refl
not_not false = refl

pub returns : goal.returns
returns c = subst (λ b. IsTrue b ↔ IsLine c.args.text.now) (ap not c.is_none.ensures ∙ not_not c.is_none.result) (is_line_by c.args.text.now c.memchr.result c.memchr.ensures)
