use Rattle.std.proofs.Common.{refl, inl}
use Rattle.race_page.proofs.rows.write_rest.Goals as goal

pub write_plain-requires-clause-plain : goal.write_plain-requires-clause-plain
write_plain-requires-clause-plain c = inl (inl (rw c.in-Undecided.is refl))

pub write_plain-requires-in-Apart-clause-plain : goal.write_plain-requires-in-Apart-clause-plain
write_plain-requires-in-Apart-clause-plain c = inl (inl (rw c.in-Apart.is refl))
