use Rattle.std.proofs.Common.{rules}
use Rattle.race_parts.proofs.ScanLemmas.{if_some-map}
use Rattle.race_parts.proofs.scan.told_in.Goals as goal

pub returns-in-Ok : goal.returns-in-Ok
returns-in-Ok c = if_some-map c.known_in.result (λ known told. (told.0, (search rules, told.1), told.2)) c.known_in.ensures
