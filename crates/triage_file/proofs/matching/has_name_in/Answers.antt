use Rattle.std.proofs.Common.{sym, ◌∙◌}
use Rattle.toml.specs.View.{view}
use Rattle.triage_file.specs.Matching.{is_same_name}
use Rattle.triage_file.proofs.ItemLemmas.{list_any-view}
use Rattle.triage_file.proofs.matching.has_name_in.Goals as goal

pub returns : goal.returns
returns c = c.has_name.ensures ∙ sym (list_any-view (is_same_name c.args.name.now) c.args.items.now)
