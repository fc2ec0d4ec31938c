use Rattle.std.proofs.Common.{◌≡◌, length, Some, refl, arith}
use Rattle.std.specs.List.{slice_get}
use Rattle.std.proofs.lemmas.Option.{slice_get_read}
use Rattle.event_index.specs.Lookups.{before}
use Rattle.race_groups.specs.Counts.{keeps}
use Rattle.race_groups.specs.Ends.{lower_of, upper_of}
use Rattle.race_groups.proofs.BasisLemmas.{class_added, class_loose, loose_same}
use Rattle.race_groups.proofs.ClassLemmas.{class_none}
use Rattle.race_groups.proofs.heavy.add_sums.Goals as goal

pub returns-in_default-clause-ok : goal.returns-in_default-clause-ok
returns-in_default-clause-ok c = λ k p q le.
    let b = c.args.basis in
    let r = b.indexed.now in
    let infos = b.classes.now.infos.items in
    let j = c.index-info.result.now in
    let at : slice_get infos c.args.class ≡ Some j = slice_get_read infos (length infos) c.args.class j refl c.requires.class c.index-info.ensures in
    let keep = keeps b.classes.now.lists.keys k in
    let none = c.in_default.ensures.none refl in
    let more = class_none r c.requires.basis.formed b.classes.now.numbers.items infos c.args.thread c.args.class j keep p q (upper_of r.events k) at none in
    let less = class_none r c.requires.basis.formed b.classes.now.numbers.items infos c.args.thread c.args.class j keep p q (lower_of r.events b.forced.now k) at none in
    omega (arith, more, less)

pub add_loose-requires-clause-loose : goal.add_loose-requires-clause-loose
add_loose-requires-clause-loose c =
    rw (c.loose.ensures.earlier, c.loose.ensures.known, c.loose.ensures.forced)
    (class_loose c.args.basis c.requires.basis c.args.thread c.requires.thread c.args.class c.sum_up.new.self c.sum_up.ensures)

pub returns-clause-ok : goal.returns-clause-ok
returns-clause-ok c = λ k p q le.
    let infos = c.args.basis.classes.now.infos.items in
    let j = c.index-info.result.now in
    let at : slice_get infos c.args.class ≡ Some j = slice_get_read infos (length infos) c.args.class j refl c.requires.class c.index-info.ensures in
    let added = class_added c.args.basis c.requires.basis c.args.thread c.requires.thread c.args.class c.sum_up.new.self c.sum_up.ensures j at k p q in
    let below = c.sum_up.new.self in
    let same = loose_same c.args.basis.classes.now j c.loose.result below.earlier.counts.items below.known.counts.items below.forced.counts.items
    c.loose.ensures.earlier c.loose.ensures.known c.loose.ensures.forced k p q (before (length infos))
    in omega (arith, c.in_ok-add_loose.ensures.ok k p q le, same, added)
