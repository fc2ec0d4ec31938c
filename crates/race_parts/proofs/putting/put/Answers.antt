use Rattle.std.proofs.Common.{refl, rules}
use Rattle.race_parts.proofs.PutLemmas.{added, added_there, held_added, held_kept, kept, kept_there}
use Rattle.race_parts.proofs.UndoLemmas.{adds-kept, adds-new}
use Rattle.race_parts.proofs.putting.put.Goals as goal

pub returns-then-eq-clause-ok : goal.returns-then-eq-clause-ok
returns-then-eq-clause-ok c q = kept c.args.parts.now c.args.name c.args.part.text.items (search rules) q

pub returns-then-eq-clause-held : goal.returns-then-eq-clause-held
returns-then-eq-clause-held c q =
    let known = c.in-Some.known.now in
    held_kept c.args.parts.now c.args.name c.args.part.text.items c.args.part.file (known.text.items, known.file) (search rules) q

pub returns-then-eq-clause-there : goal.returns-then-eq-clause-there
returns-then-eq-clause-there c key same = kept_there c.args.parts.now c.args.name c.args.part.text.items (search rules) key same

pub returns-in-Some-clause-clash : goal.returns-in-Some-clause-clash
returns-in-Some-clause-clash c = (c.args.name, refl, c.in-Some.known.now.text.items, search rules, search rules)

pub returns-in-Ok-clause-ok : goal.returns-in-Ok-clause-ok
returns-in-Ok-clause-ok c q = added c.args.parts.now c.insert.new.self c.args.name c.args.part (search rules) c.in-Ok.ensures.updates q

pub returns-in-Ok-clause-held : goal.returns-in-Ok-clause-held
returns-in-Ok-clause-held c q = held_added c.args.parts.now c.insert.new.self c.args.name c.args.part (search rules) c.in-Ok.ensures.updates q

pub returns-in-Ok-clause-there : goal.returns-in-Ok-clause-there
returns-in-Ok-clause-there c key same = added_there c.args.parts.now c.insert.new.self c.args.name c.args.part c.in-Ok.ensures.updates key same

pub returns-then-eq-clause-added : goal.returns-then-eq-clause-added
returns-then-eq-clause-added c = adds-kept c.args.parts.now c.args.parts.now c.args.name.items refl

pub returns-in-Ok-clause-added : goal.returns-in-Ok-clause-added
returns-in-Ok-clause-added c = adds-new c.args.parts.now c.insert.new.self c.args.name c.args.part (search rules) c.in-Ok.ensures.entries
