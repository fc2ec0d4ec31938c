use Rattle.std.proofs.Common.{◌≡◌, Option, List, map, ap, sym, ◌∙◌}
use Rattle.toml.specs.Data.{Data, Items}
use Rattle.toml.specs.View.{view}
use Rattle.triage_file.specs.Entries.{items_by}
use Rattle.triage_file.proofs.ItemLemmas.{items_in-view}
use Rattle.triage_file.proofs.fields.items_of.Goals as goal

pub returns-in-Some : goal.returns-in-Some
returns-in-Some c =
    ap (map view) c.as_slice.ensures.value ∙ sym (items_in-view c.in-Some.array.now.items) ∙ ap items_by c.in-Some.ensures
