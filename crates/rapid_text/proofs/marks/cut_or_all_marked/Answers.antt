use Rattle.std.proofs.Common.{◌==◌, length, sym, ◌∙◌}
use Rattle.std.proofs.lemmas.List.{take_all, drop_all}
use Rattle.std.proofs.Common.{le_refl}
use Rattle.rapid_text.proofs.FirstByte.{none-before, none-after}
use Rattle.rapid_text.proofs.marks.cut_or_all_marked.Goals as goal

pub returns-in-None-clause-before : goal.returns-in-None-clause-before
returns-in-None-clause-before c =
    let text = c.args.bytes.now in
    c.split_at.ensures.front ∙ take_all (length text) text (le_refl (length text)) ∙ sym (none-before (λ x. x == c.args.byte) text c.in-None.ensures.none)

pub returns-in-None-clause-after : goal.returns-in-None-clause-after
returns-in-None-clause-after c =
    let text = c.args.bytes.now in
    c.split_at.ensures.back ∙ drop_all (length text) text (le_refl (length text)) ∙ sym (none-after (λ x. x == c.args.byte) text c.in-None.ensures.none)
