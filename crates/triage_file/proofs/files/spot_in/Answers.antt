use Rattle.std.proofs.Common.{refl}
use Rattle.triage_file.specs.Files.{IsKeyPlace}
use Rattle.triage_file.proofs.files.spot_in.Goals as goal

pub returns-in-Some : goal.returns-in-Some
returns-in-Some c = λ number header. (c.in-Some.at, IsKeyPlace.at_key c.args.start c.in-Some.at header c.in-Some.ensures.some, c.spot_at.ensures)

pub returns-in-None : goal.returns-in-None
returns-in-None c = λ number header. (c.args.start, IsKeyPlace.at_header c.args.start header (c.in-None.ensures.none refl), c.spot_at-in-None.ensures)
