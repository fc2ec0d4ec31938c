use Rattle.std.proofs.Common.{◌≡◌}
use Rattle.toml.specs.View.{members_view, table_view}
use Rattle.triage_file.specs.Entries.{keys_in}
use Rattle.triage_file.specs.Files.{other_key}
use Rattle.triage_file.proofs.files.other_key.Given as goal

abbrev pub invariant-loop-key : goal.invariant-loop-key
invariant-loop-key l = other_key (keys_in (table_view l.fn.table)) ≡ other_key (keys_in (members_view l.key-iterator))
