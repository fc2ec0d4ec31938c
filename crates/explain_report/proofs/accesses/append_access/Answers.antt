use Rattle.std.proofs.Common.{◌++◌, ℕ, List, codes, sym, ap, ◌∙◌}
use Rattle.explain_report.proofs.AccessLemmas.{access_text-there}
use Rattle.explain_report.proofs.PieceLemmas.{three_pieces}
use Rattle.explain_report.proofs.accesses.append_access.Goals as goal

pub returns : goal.returns
returns c =
    let r = c.args.analysis.now in
    three_pieces c.args.out.now.items _ _ _ _ _ c.in_ok-append_words.ensures (simp c.indexed.ensures at c.in_ok-append_event.ensures) _ c.in_ok-append_held.ensures
    ∙ ap (λ (t : List ℕ). c.args.out.now.items ++ t) (sym (access_text-there r c.args.event c.requires.event))
