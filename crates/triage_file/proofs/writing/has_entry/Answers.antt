use Rattle.std.proofs.Common.{◌∙◌}
use Rattle.triage_file.proofs.EntryLemmas.{any_text}
use Rattle.triage_file.proofs.writing.has_entry.Goals as goal

pub returns : goal.returns
returns c = c.contains.ensures ∙ any_text c.args.entries.now.keys c.args.text.now
