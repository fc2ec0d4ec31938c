use Rattle.std.proofs.Common.{sym, ◌∙◌}
use Rattle.triage_file.specs.Entries.{is_expired}
use Rattle.triage_file.proofs.ItemLemmas.{position-view}
use Rattle.triage_file.proofs.files.first_expired.Goals as goal

pub returns-clause-first : goal.returns-clause-first
returns-clause-first c = c.expired_at.ensures.first ∙ sym (position-view (is_expired c.args.today) c.args.entries.now)
