use Rattle.std.proofs.Common.{◌+◌, ◌==◌, take, drop, sym, ap, ◌∙◌}
use Rattle.std.proofs.lemmas.List.{take_rest}
use Rattle.rapid_text.proofs.FirstByte.{some-position, none-list_any}
use Rattle.rapid_text.proofs.marks.cut_marked.Goals as goal

pub returns-in_default-clause-none : goal.returns-in_default-clause-none
returns-in_default-clause-none c = none-list_any (λ x. x == c.args.byte) c.args.bytes.now c.in_default.ensures

pub returns-clause-before : goal.returns-clause-before
returns-clause-before c =
    ap (λ n. take n c.args.bytes.now)
    (sym (some-position (λ x. x == c.args.byte) c.args.bytes.now c.in-Some.at c.in-Some.ensures))

pub returns-clause-after : goal.returns-clause-after
returns-clause-after c =
    let text = c.args.bytes.now in
    take_rest text (c.in-Some.at + 1)
    ∙ ap (λ n. drop (n + 1) text) (sym (some-position (λ x. x == c.args.byte) text c.in-Some.at c.in-Some.ensures))
