use Rattle.std.proofs.Common.{ap, ◌∙◌, ◌++◌, List, ℕ}
use Rattle.explain_report.proofs.PieceLemmas.{eight_pieces}
use Rattle.explain_report.proofs.contradicted.append_step.Goals as goal

pub returns : goal.returns
returns c =
    eight_pieces c.args.out.now.items _ _ _ _ _ _ _ _ _ _ _ _ _ _ _ _ c.in_ok-append_step_number.ensures c.in_ok-append_words.ensures c.in_ok-append_line.ensures
    c.in_ok-append_words-2.ensures c.in_ok-append_before_relation.ensures c.in_ok-append_relation.ensures c.in_ok-append_after_relation.ensures c.in_ok-append_words-3.ensures
