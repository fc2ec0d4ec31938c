use Rattle.std.proofs.Common.{◌≡◌}
use Rattle.std.specs.List.{list_all}
use Rattle.toml.specs.View.{members_view, table_view}
use Rattle.triage_file.specs.Entries.{keys_in}
use Rattle.triage_file.specs.Files.{is_race_key}
use Rattle.triage_file.proofs.files.are_races.Given as goal

abbrev pub invariant-loop-key : goal.invariant-loop-key
invariant-loop-key l = list_all is_race_key (keys_in (table_view l.fn.table)) ≡ list_all is_race_key (keys_in (members_view l.key-iterator))
