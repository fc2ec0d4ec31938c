use Rattle.std.proofs.Common.{List, ℕ, ap, subst, ◌∙◌}
use Rattle.std.specs.List.{slice_split}
use Rattle.rapid_text.specs.LinesLeft.{lines_left}
use Rattle.rapid_text.specs.Reading.{is_line_feed}
use Rattle.race_triage.specs.Blocks.{AreAhead}
use Rattle.race_triage.proofs.KnownLemmas.{AreAhead-end, AreAhead-found}
use Rattle.race_triage.proofs.known.has_block.Goals as goal

pub returns-in-Some-told-clause-yes : goal.returns-in-Some-told-clause-yes
returns-in-Some-told-clause-yes c =
    λ _. AreAhead-found (slice_split is_line_feed c.args.text.now) (lines_left c.loop-left.left) (lines_left c.first_line.result.1) c.first_line.result.0.now c.loop-left.block c.read.result.0 c.read.result.1
    c.loop-left.invariant (ap lines_left c.in-Some.is ∙ c.first_line.ensures.lines) c.read.ensures c.in-Some-told.field-0.0 c.in-Some-told.field-0.1 c.in-Some-told.is

pub returns-clause-no : goal.returns-clause-no
returns-clause-no c =
    let lines = slice_split is_line_feed c.args.text.now in
    λ _. AreAhead-end c.args.text.now c.loop-left.block (subst (λ (left : List (List ℕ)). AreAhead lines left c.loop-left.block) (ap lines_left c.in_default.is) c.loop-left.invariant)
