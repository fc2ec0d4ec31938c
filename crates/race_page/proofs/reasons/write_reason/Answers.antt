use Rattle.std.proofs.Common.{refl, sym, [], append-nil}
use Rattle.race_page.specs.Reasons.{undecided_reason}
use Rattle.race_page.proofs.reasons.write_reason.Goals as goal

pub returns-in-Race : goal.returns-in-Race
returns-in-Race c = ([], sym (append-nil c.args.piece.now), rw c.in-Race.is refl)

pub returns-in_ok-write_undecided-in-Undecided : goal.returns-in_ok-write_undecided-in-Undecided
returns-in_ok-write_undecided-in-Undecided c = (undecided_reason c.in-Undecided.tried, c.in_ok-write_undecided-in-Undecided.ensures, rw c.in-Undecided.is refl)

pub returns-in-Apart : goal.returns-in-Apart
returns-in-Apart c = rw c.in-Apart.is c.write_apart.ensures
