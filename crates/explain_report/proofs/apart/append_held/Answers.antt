use Rattle.std.proofs.Common.{◌++◌, Option, ℕ, ap, ◌∙◌}
use Rattle.std.proofs.lemmas.Result.{on_ok_weaker}
use Rattle.explain_report.specs.Sections.{until_text}
use Rattle.explain_report.proofs.PieceLemmas.{four_pieces}
use Rattle.explain_report.proofs.apart.append_held.Goals as goal

pub returns : goal.returns
returns c =
    on_ok_weaker c.append_until.result
    (λ until. four_pieces c.args.out.now.items _ _ _ _ _ c.in_ok-append_thread_of.ensures c.in_ok-append_words.ensures _ _ _ c.in_ok-append_line.ensures
    (until ∙ ap (λ (o : Option ℕ). c.append_line.new.out.items ++ until_text c.args.indexed.now o) c.section.ensures.section))
    c.append_until.ensures
