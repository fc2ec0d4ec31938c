use Rattle.std.proofs.Common.{Err, slice_index, ap, arith}
use Rattle.race_groups.specs.Counting.{total_ends}
use Rattle.race_groups.specs.Counts.{keeps}
use Rattle.race_groups.specs.Ends.{upper_of}
use Rattle.race_groups.specs.declared.rows.RowsRefusal.TheVariants.{TooMany}
use Rattle.race_groups.proofs.CompleteLemmas.{same_Err}
use Rattle.race_groups.proofs.TotalGroupLemmas.{total_room}
use Rattle.race_groups.proofs.TurnLemmas.{AreJoined-more, AreTooMany-few, joined_few, part_is}
use Rattle.race_groups.proofs.workers.add_part.Goals as goal

pub add_rows-requires-clause-room : goal.add_rows-requires-clause-room
add_rows-requires-clause-room c = λ k p q le.
    let b = c.args._basis in
    let r = b.indexed.now in
    let keep = keeps b.classes.now.lists.keys k in
    let one = part_is b (slice_index c.args._places.now) c.args.limit c.args._worker c.args.part.now c.in-Ok.rows c.in-Ok.is c.requires.part in
    let few = joined_few b c.requires.basis c.args.all.now c.in-Ok.rows c.args._worker c.requires.worker c.requires.joined one k p q le in
    let totals = total_room r c.requires.basis.formed keep b.classes.now.numbers.items b.classes.now.infos.items (total_ends r.events k) p q in
    let upper = total_room r c.requires.basis.formed keep b.classes.now.numbers.items b.classes.now.infos.items (upper_of r.events k) p q in
    omega (arith, few, totals, upper)

pub returns-in-Ok-add_rows-clause-joined : goal.returns-in-Ok-add_rows-clause-joined
returns-in-Ok-add_rows-clause-joined c =
    let b = c.args._basis in
    let one = part_is b (slice_index c.args._places.now) c.args.limit c.args._worker c.args.part.now c.in-Ok.rows c.in-Ok.is c.requires.part in
    AreJoined-more b c.requires.basis c.args.all.now c.in-Ok.rows c.add_rows.new.all c.args._worker c.requires.joined one c.in-Ok-add_rows.ensures.added

pub returns-in-Err-add_rows-clause-too_many : goal.returns-in-Err-add_rows-clause-too_many
returns-in-Err-add_rows-clause-too_many c = λ refused.
    let b = c.args._basis in
    let one = part_is b (slice_index c.args._places.now) c.args.limit c.args._worker c.args.part.now c.in-Ok.rows c.in-Ok.is c.requires.part in
    let told = c.in-Err-add_rows.ensures.too_many (ap Err (same_Err c.in-Err-add_rows.refusal TooMany refused)) in
    AreTooMany-few b c.requires.basis (slice_index c.args._places.now) c.requires.classes c.args.limit c.add_rows.new.all told.0
    (λ k p q le.
    let few = joined_few b c.requires.basis c.args.all.now c.in-Ok.rows c.args._worker c.requires.worker c.requires.joined one k p q le in
    omega (arith, told.1 k p q le, few))
