use Rattle.std.proofs.Common.{◌≡◌, ◌∷◌, List, ℕ, sym, ap, ◌∙◌}
use Rattle.rapid_text.specs.LinesLeft.{lines_left}
use Rattle.deadlock_report.specs.Known.{locations_in}
use Rattle.deadlock_report.proofs.KnownLemmas.{locations-more, locations-same}
use Rattle.deadlock_report.proofs.known.next_location.Goals as goal

pub returns-in-Some-location_of : goal.returns-in-Some-location_of
returns-in-Some-location_of c =
    let line : List ℕ = c.first_line.result.0.now in
    let rest : List (List ℕ) = lines_left c.first_line.result.1 in
    let whole : lines_left c.loop-left.left ≡ line ∷ rest = ap lines_left c.in-Some.is ∙ c.first_line.ensures.lines in
    sym c.loop-left.invariant
    ∙ ap locations_in whole
    ∙ locations-more line rest c.in-Some-location_of.location.now (sym c.if-is_head.ensures) c.in-Some-location_of.ensures.some

pub loop-left-preserved : goal.loop-left-preserved
loop-left-preserved c =
    let line : List ℕ = c.first_line.result.0.now in
    let rest : List (List ℕ) = lines_left c.first_line.result.1 in
    let whole : lines_left c.loop-left.left ≡ line ∷ rest = ap lines_left c.in-Some.is ∙ c.first_line.ensures.lines in
    sym (ap locations_in whole ∙ locations-same line rest (sym c.if-is_head.ensures) c.in_default-location_of.ensures.none)
    ∙ c.loop-left.invariant
