use Rattle.std.proofs.Common.{◌≡◌, ◌+◌, length, slice_index, Some, refl, sym, ap, ◌∙◌, arith}
use Rattle.std.specs.List.{slice_get}
use Rattle.std.proofs.lemmas.Option.{slice_get-get_or}
use Rattle.event_index.specs.Lookups.{before, events_of}
use Rattle.event_index.proofs.CallerLemmas.{place_of-events_of}
use Rattle.race_groups.specs.Counts.{keeps}
use Rattle.race_groups.specs.Ends.{lower_of, upper_of}
use Rattle.race_groups.proofs.BasisLemmas.{later_added, later_loose, loose_same}
use Rattle.race_groups.proofs.LaterLemmas.{later_none}
use Rattle.race_groups.proofs.counted.add_later.Goals as goal

pub returns-in_default-clause-ok : goal.returns-in_default-clause-ok
returns-in_default-clause-ok c = λ k p q le.
    let b = c.args.basis in
    let T = b.indexed.now.events in
    let infos = b.classes.now.infos.items in
    let numbers = b.classes.now.numbers.items in
    let e = slice_index (events_of T c.args.thread) c.args.at in
    let j = c.class_of-class.result in
    let here : slice_index c.thread_events.result.now c.args.at ≡ e = ap (λ xs. slice_index xs c.args.at) c.thread_events.ensures.events in
    let found : slice_get infos (slice_index numbers e) ≡ Some j = ap (λ n. slice_get infos (slice_index numbers n)) (sym here) ∙ c.class_of-class.ensures in
    let keep = keeps b.classes.now.lists.keys k in
    let more = later_none T keep numbers infos c.args.thread (upper_of T k) p q e j found (c.in_default.ensures.none refl) in
    let less = later_none T keep numbers infos c.args.thread (lower_of T b.forced.now k) p q e j found (c.in_default.ensures.none refl) in
    omega (arith, more, less)

pub add_loose-requires-clause-loose : goal.add_loose-requires-clause-loose
add_loose-requires-clause-loose c =
    let T = c.args.basis.indexed.now.events in
    let e = slice_index (events_of T c.args.thread) c.args.at in
    let at = place_of-events_of T c.args.thread c.args.at e (slice_get-get_or (events_of T c.args.thread) c.args.at 0 c.requires.at) in
    rw (c.loose.ensures.earlier, c.loose.ensures.known, c.loose.ensures.forced)
    (later_loose c.args.basis c.requires.basis c.args.thread c.requires.thread (c.args.at + 1) e at.1 c.advance.new.self c.advance.ensures.fronts c.advance.ensures.moved)

pub returns-clause-ok : goal.returns-clause-ok
returns-clause-ok c = λ k p q le.
    let b = c.args.basis in
    let T = b.indexed.now.events in
    let infos = b.classes.now.infos.items in
    let numbers = b.classes.now.numbers.items in
    let e = slice_index (events_of T c.args.thread) c.args.at in
    let j = c.class_of-class.result in
    let here : slice_index c.thread_events.result.now c.args.at ≡ e = ap (λ xs. slice_index xs c.args.at) c.thread_events.ensures.events in
    let found : slice_get infos (slice_index numbers e) ≡ Some j = ap (λ n. slice_get infos (slice_index numbers n)) (sym here) ∙ c.class_of-class.ensures in
    let at = place_of-events_of T c.args.thread c.args.at e (slice_get-get_or (events_of T c.args.thread) c.args.at 0 c.requires.at) in
    let fronts = c.advance.new.self in
    let added = later_added b c.requires.basis c.args.thread c.requires.thread (c.args.at + 1) e at.1 fronts c.advance.ensures.fronts c.advance.ensures.moved j found k p q in
    let same = loose_same b.classes.now j c.loose.result fronts.earlier.counts.items fronts.known.counts.items fronts.forced.counts.items
    c.loose.ensures.earlier c.loose.ensures.known c.loose.ensures.forced k p q (before (length infos))
    in omega (arith, c.in_ok-add_loose.ensures.ok k p q le, same, added)
