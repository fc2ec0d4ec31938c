use Rattle.std.proofs.Common.{◌+◌, drop, sym, ap, ◌∙◌}
use Rattle.std.proofs.lemmas.List.{take_rest}
use Rattle.rapid_text.specs.Reading.{is_bar}
use Rattle.rapid_text.proofs.FirstByte.{none-list_any, some-list_any, some-position}
use Rattle.race_triage.proofs.known.behind_bar.Goals as goal

pub returns-in-Some-clause-found : goal.returns-in-Some-clause-found
returns-in-Some-clause-found c = some-list_any is_bar c.args.text.now c.in-Some.bar c.in-Some.ensures

pub returns-in-Some-clause-behind : goal.returns-in-Some-clause-behind
returns-in-Some-clause-behind c =
    let text = c.args.text.now in
    take_rest text (c.in-Some.bar + 1) ∙ ap (λ n. drop (n + 1) text) (sym (some-position is_bar text c.in-Some.bar c.in-Some.ensures))

pub returns-in-None-clause-none : goal.returns-in-None-clause-none
returns-in-None-clause-none c = none-list_any is_bar c.args.text.now c.in-None.ensures
