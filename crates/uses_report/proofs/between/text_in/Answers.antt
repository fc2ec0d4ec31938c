use Rattle.std.proofs.Common.{◌++◌, ◌∙◌, ap}
use Rattle.uses_report.specs.Texts.{uses_words}
use Rattle.uses_report.proofs.between.text_in.Goals as goal

pub returns-in_ok-uses_text-in-Ok-clause-text : goal.returns-in_ok-uses_text-in-Ok-clause-text
returns-in_ok-uses_text-in-Ok-clause-text c = record {
  places = c.args.places.now;
  numbers = c.requires.numbers;
  uses = c.in-Ok.uses;
  columns = c.in-Ok.ensures.uses;
  printed =
      c.in_ok-uses_text-in-Ok.ensures.ok
      ∙ ap (λ t. t ++ uses_words c.indexed.result.now c.args.chosen.now c.in-Ok.uses) c.new-text.ensures.items
      ∙ ap (λ r. uses_words r c.args.chosen.now c.in-Ok.uses) c.indexed.ensures;
}
