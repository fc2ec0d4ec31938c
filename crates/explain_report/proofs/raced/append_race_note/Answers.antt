use Rattle.std.proofs.Common.{ℕ, ◌++◌, decimal, sym, ap, ◌∙◌}
use Rattle.explain_report.proofs.PieceLemmas.{five_pieces}
use Rattle.explain_report.proofs.RacedLemmas.{noted}
use Rattle.explain_report.proofs.raced.append_race_note.Goals as goal

pub returns : goal.returns
returns c =
    noted c.args.analysis.now.events c.args.first c.args.second c.args.out.now.items _ (sym c.is_race.ensures ∙ c.if-not-is_race.false)
    (five_pieces c.args.out.now.items _ _ _ _ _ c.in_ok-append_words.ensures (c.in_ok-append_number.ensures ∙ ap (λ (n : ℕ). c.append_words.new.out.items ++ decimal n) c.from.ensures)
    _ _ _ _ _ c.in_ok-append_words-2.ensures (c.in_ok-append_number-2.ensures ∙ ap (λ (n : ℕ). c.append_words-2.new.out.items ++ decimal n) c.from-2.ensures) c.in_ok-append_words-3.ensures)
