use Rattle.std.proofs.Common.{sym, ◌∙◌}
use Rattle.std.proofs.lemmas.List.Folds.{list_all-map}
use Rattle.toml.specs.View.{view}
use Rattle.triage_file.specs.Entries.{is_text}
use Rattle.triage_file.proofs.fields.are_all_texts.Goals as goal

pub returns : goal.returns
returns c = c.are_each_texts.ensures ∙ sym (list_all-map is_text view c.args.items.now)
