use Rattle.std.proofs.Common.{◌∙◌, sym, ap, subst, take, drop, List, ℕ, ◌∷◌, ◌-◌}
use Rattle.std.proofs.lemmas.List.{take_rest}
use Rattle.kept_log.specs.Lines.{IsLine, kept_lines}
use Rattle.kept_log.proofs.LineLemmas.{kept-end, kept-first, within-line_text}
use Rattle.kept_log.proofs.lines.first_line.Goals as goal

pub returns-clause-line : goal.returns-clause-line
returns-clause-line c =
    let line = c.in-Some.ensures.line in
    subst IsLine (sym (within-line_text c.args.text.now line.0 c.in-Some.len c.in-Some.ensures.within.1 line.2)) line.1

pub returns-clause-lines : goal.returns-clause-lines
returns-clause-lines c =
    let line = c.in-Some.ensures.line in
    kept-first c.args.text.now line.0 c.in-Some.len line.1 line.2
    ∙ ap (λ (l : List ℕ). l ∷ kept_lines (drop c.in-Some.len c.args.text.now)) (sym (within-line_text c.args.text.now line.0 c.in-Some.len c.in-Some.ensures.within.1 line.2))
    ∙ ap (λ (t : List ℕ). take (c.in-Some.len - 1 - 1) (drop 1 c.args.text.now) ∷ kept_lines t) (sym (take_rest c.args.text.now c.in-Some.len))

pub returns-in_default-clause-none : goal.returns-in_default-clause-none
returns-in_default-clause-none c = kept-end c.args.text.now c.in_default.ensures.none
