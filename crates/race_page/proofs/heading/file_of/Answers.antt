use Rattle.std.proofs.Common.{refl, inl, inr}
use Rattle.race_page.proofs.heading.file_of.Goals as goal

pub returns-in-Some : goal.returns-in-Some
returns-in-Some c = let cut = c.in-Some.ensures.some in (cut.1, inr (c.in-Some.parts.0.now, cut.0))

pub returns-in-None : goal.returns-in-None
returns-in-None c = (c.in-None.ensures.none refl, inl refl)
