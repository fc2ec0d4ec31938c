use Rattle.race_parts.proofs.UndoLemmas.{noted-known, noted-new}
use Rattle.race_parts.proofs.undoing.note_new.Goals as goal

pub returns-then-contains_key-clause-ok : goal.returns-then-contains_key-clause-ok
returns-then-contains_key-clause-ok c = noted-known c.args.parts.now c.args.name.now _ c.args.added.now c.in_ok-name.ensures.items c.if-contains_key.ensures

pub returns-clause-ok : goal.returns-clause-ok
returns-clause-ok c = noted-new c.args.parts.now c.args.name.now c.args.added.now c.push.new.self c.in_ok-name.name c.in_ok-name.ensures.items c.if-contains_key.ensures c.in_ok-push.ensures.items
