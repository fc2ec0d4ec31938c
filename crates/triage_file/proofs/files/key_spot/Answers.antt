use Rattle.std.proofs.Common.{refl}
use Rattle.triage_file.specs.Files.{IsKeyPlace}
use Rattle.triage_file.proofs.files.key_spot.Goals as goal

pub returns-in-None : goal.returns-in-None
returns-in-None c = (0, IsKeyPlace.at_beginning (c.in-None.ensures.none refl), c.spot_at.ensures)
