use Rattle.std.proofs.Common.{true≢false, sym, ap, ◌∙◌, false, ◌≡◌}
use Rattle.std.specs.List.{list_any}
use Rattle.rapid_text.specs.Reading.{is_bar, trimmed}
use Rattle.rapid_text.proofs.FirstByte.{none-after}
use Rattle.race_triage.proofs.known.location_of.Goals as goal

pub returns-in_default-clause-none : goal.returns-in_default-clause-none
returns-in_default-clause-none c location is =
    let whole = trimmed c.args.line.now in
    let none : list_any is_bar whole ≡ false = ap (list_any is_bar) (sym c.trim.ensures) ∙ c.in_default.ensures.none in
    absurd (true≢false (sym is.0 ∙ ap (list_any is_bar) (none-after is_bar whole none)))
