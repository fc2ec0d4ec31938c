use Rattle.std.proofs.Common.{◌||◌, ap, ◌∙◌}
use Rattle.triage_file.specs.Matching.{is_left_out}
use Rattle.calls.proofs.triage.known.known_plus.Goals as goal

pub returns-in-Ok : goal.returns-in-Ok
returns-in-Ok c = λ v.
    c.in-Ok.ensures v
    ∙ ap (λ b. b || is_left_out c.args.indexed.now c.args.found.now.places.numbers.items c.args.entries.now c.args.found.now.verdicts.items v) (c.or_nothing.ensures v)
