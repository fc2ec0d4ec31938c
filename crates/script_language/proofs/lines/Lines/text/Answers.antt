use Rattle.std.proofs.Common.{refl, ap, ◌∙◌}
use Rattle.std.specs.List.{join_with_byte}
use Rattle.script_language.proofs.LineLemmas.{text_left}
use Rattle.script_language.proofs.lines.Lines.text.Goals as goal

pub returns : goal.returns
returns c =
    ap (λ b. b.now) c.unwrap_or.ensures
    ∙ text_left c.self.inside.rest _ refl
    ∙ ap (join_with_byte 10) c.self.view_is
