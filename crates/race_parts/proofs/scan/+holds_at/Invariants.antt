use Rattle.race_parts.proofs.scan.+holds_at.Given as goal

abbrev pub decreases-holds_at : goal.decreases-holds_at
decreases-holds_at a = a.most
