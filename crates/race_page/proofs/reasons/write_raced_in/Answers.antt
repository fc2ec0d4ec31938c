use Rattle.std.proofs.Common.{refl}
use Rattle.race_page.specs.Reasons.{raced_text}
use Rattle.race_page.proofs.reasons.write_raced_in.Goals as goal

pub returns : goal.returns
returns c = (raced_text c.in_ok-raced.raced, c.in_ok-write_raced.ensures, (c.in_ok-raced.raced, c.in_ok-raced.ensures, refl))
