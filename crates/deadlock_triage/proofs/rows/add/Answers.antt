use Rattle.std.proofs.Common.{◌∙◌}
use Rattle.deadlock_triage.specs.Patterns.{locations_of}
use Rattle.deadlock_triage.proofs.KeyLemmas.{added_at_end}
use Rattle.deadlock_triage.proofs.rows.add.Goals as goal

pub returns : goal.returns
returns c =
    added_at_end c.args.patterns.now.keys c.insert_full.new.self.keys c.in_ok-owned.owned (locations_of c.args.pattern)
    (c.in_ok-owned.ensures.items ∙ c.as_slice.ensures ∙ c.locations_of-locations.ensures) c.requires c.in_ok-insert_full.ensures.keys
