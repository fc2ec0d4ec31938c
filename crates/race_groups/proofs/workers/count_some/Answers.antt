use Rattle.race_groups.proofs.workers.count_some.Goals as goal

pub returns : goal.returns
returns c =
    let part = c.count_in_turn.ensures in
    record { counted = part.counted; rows = part.rows; kept = part.kept; too_many = part.too_many }
