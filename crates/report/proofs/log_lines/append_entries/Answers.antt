-- Each turn appends the line of one entry more.
use Rattle.std.proofs.Common.{◌++◌, List, ℕ, ap, sym, ◌∙◌, append_assoc}
use Rattle.report.specs.Log.{line_at, entry_lines}
use Rattle.report.proofs.LineLemmas.{lines-more}
use Rattle.report.proofs.log_lines.append_entries.Goals as goal

pub loop-number-preserved : goal.loop-number-preserved
loop-number-preserved c =
    let log = c.args.bench.now.log in
    let before = c.args.out.now.items in
    let n = c.loop-number.number in
    c.in_default.ensures.ok
    ∙ ap (λ (text : List ℕ). text ++ line_at log n) c.loop-number.invariant
    ∙ append_assoc before (entry_lines log n) (line_at log n)
    ∙ ap (λ (lines : List ℕ). before ++ lines) (sym (lines-more (line_at log) n))
