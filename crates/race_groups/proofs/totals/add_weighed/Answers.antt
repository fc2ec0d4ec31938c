use Rattle.std.proofs.Common.{◌≡◌, ◌+◌, ◌<◌, length, slice_index, All, Some, ℕ, refl, sym, ap, subst, ◌∙◌, arith}
use Rattle.std.specs.List.{slice_get}
use Rattle.std.proofs.lemmas.Option.{slice_get_read}
use Rattle.race_groups.specs.Counting.{total_ends}
use Rattle.race_groups.specs.Counts.{keeps}
use Rattle.race_groups.specs.Rows.{Part, count_at}
use Rattle.race_groups.specs.Totals.{at_greater, entries_at}
use Rattle.race_groups.proofs.CompleteLemmas.{found_from}
use Rattle.race_groups.proofs.ConflictLemmas.{conflicting_within}
use Rattle.race_groups.proofs.GreaterLemmas.{greater_nothing}
use Rattle.race_groups.proofs.TotalLemmas.{owned_none}
use Rattle.race_groups.proofs.TwoClassLemmas.{class_adds, product_few, same_le, total_is, total_none, total_of, totals_fit}
use Rattle.race_groups.proofs.totals.add_weighed.Goals as goal

pub returns-in_default-clause-ok : goal.returns-in_default-clause-ok
returns-in_default-clause-ok c = λ k p q le.
    let r = c.args.basis.indexed.now in
    let infos = c.args.basis.classes.now.infos.items in
    let info = c.index-info.result.now in
    let at : slice_get infos c.args.class ≡ Some info = slice_get_read infos (length infos) c.args.class info refl c.requires.class c.index-info.ensures in
    let none = total_none c.args.basis.classes.now.lists.keys p q r.events (keeps c.args.basis.classes.now.lists.keys k) c.args.basis.classes.now.numbers.items infos (length r.threads) (total_ends r.events k) c.args.class info at (c.in_default.ensures.none refl) in
    omega (arith, none)

pub add_all-requires-clause-members : goal.add_all-requires-clause-members
add_all-requires-clause-members c =
    conflicting_within c.args.basis.classes.now.infos.items c.in-Some.variable c.index-info.result.now.op c.conflicting-walk.result.members.now c.conflicting-walk.ensures.members

pub add_all-requires-clause-can : goal.add_all-requires-clause-can
add_all-requires-clause-can c = λ x inside.
    let r = c.args.basis.indexed.now in
    let infos = c.args.basis.classes.now.infos.items in
    let numbers = c.args.basis.classes.now.numbers.items in
    let totals = c.args.totals.now in
    let spread = c.args.spread.now in
    let weights = c.args.weights.now in
    let mine = c.requires.weights.each in
    let j = c.args.class in
    let times : ℕ = slice_index totals j in
    let n = length infos in
    let less = same_le r c.requires.basis.formed numbers n spread c.requires.spread totals weights j times c.requires.class c.requires.totals.counted mine refl x inside in
    let few = product_few r c.requires.basis.formed numbers n spread c.requires.spread totals weights j times c.requires.class c.requires.totals.counted mine refl x inside in
    let wide = c.requires.weights.len in (
      omega (arith, inside, c.requires.totals.len),
      omega (arith, inside, c.requires.spread.len),
      subst (λ (m : ℕ). All (λ (e : ℕ × ℕ). e.0 < m) (entries_at spread x)) (sym wide) (c.requires.spread.within x),
      less,
      omega (arith, few),
    )

pub add_all-requires-clause-own : goal.add_all-requires-clause-own
add_all-requires-clause-own c =
    let r = c.args.basis.indexed.now in
    let infos = c.args.basis.classes.now.infos.items in
    let numbers = c.args.basis.classes.now.numbers.items in
    let totals = c.args.totals.now in
    let spread = c.args.spread.now in
    let weights = c.args.weights.now in
    let mine = c.requires.weights.each in
    let j = c.args.class in
    let times : ℕ = slice_index totals j in
    let n = length infos in
    let owners = c.args.basis.conflicts.now.owners.items in
    let walked = c.conflicting-walk.result.owners.now in
    found_from
    (λ u. (u ≡ slice_index c.as_slice.result.now j) × (u < c.threads.result))
    (λ u. (x : ℕ) → x < n → slice_index walked x ≡ u → (k : Part) → total_of totals spread weights times j k x ≡ 0)
    c.only_owner-owner.result
    (λ u named x inside owned k.
    let inside_threads : u < length r.threads = omega (arith, named.1, c.threads.ensures.len) in
    let own : slice_index owners x ≡ u = ap (λ xs. slice_index xs x) (sym c.conflicting-walk.ensures.owners) ∙ owned in
    let is_mine : slice_index owners j ≡ u = ap (λ xs. slice_index xs j) (sym c.as_slice.ensures.value) ∙ sym named.0 in
    total_is r c.requires.basis.formed numbers n spread c.requires.spread totals weights j times c.requires.class c.requires.totals.counted mine refl k x inside
    ∙ ap (at_greater j x) (owned_none r.events (length r.threads) numbers owners c.requires.basis.conflicts.owners u inside_threads k j x is_mine own)
    ∙ greater_nothing j x)
    c.only_owner-owner.ensures.some

pub add_all-requires-clause-room : goal.add_all-requires-clause-room
add_all-requires-clause-room c = λ k p q le.
    let r = c.args.basis.indexed.now in
    let infos = c.args.basis.classes.now.infos.items in
    let numbers = c.args.basis.classes.now.numbers.items in
    let totals = c.args.totals.now in
    let spread = c.args.spread.now in
    let weights = c.args.weights.now in
    let mine = c.requires.weights.each in
    let j = c.args.class in
    let times : ℕ = slice_index totals j in
    let n = length infos in
    let fits = totals_fit r c.requires.basis.formed numbers n spread c.requires.spread totals weights j times c.requires.class c.requires.totals.counted mine refl infos refl c.requires.basis.few c.in-Some.variable c.index-info.result.now.op c.conflicting-walk.result.members.now c.conflicting-walk.ensures.members k in
    omega (arith, fits, c.requires.room k p q le)

pub returns-clause-ok : goal.returns-clause-ok
returns-clause-ok c = λ k p q le.
    let r = c.args.basis.indexed.now in
    let infos = c.args.basis.classes.now.infos.items in
    let numbers = c.args.basis.classes.now.numbers.items in
    let totals = c.args.totals.now in
    let spread = c.args.spread.now in
    let weights = c.args.weights.now in
    let mine = c.requires.weights.each in
    let j = c.args.class in
    let times : ℕ = slice_index totals j in
    let n = length infos in
    let info = c.index-info.result.now in
    let here : slice_get infos j ≡ Some info = slice_get_read infos (length infos) j info refl c.requires.class c.index-info.ensures in
    let members = c.conflicting-walk.result.members.now in
    let keep = keeps c.args.basis.classes.now.lists.keys k in
    let amounts : ℕ → ℕ = total_of totals spread weights times j k in
    let added = class_adds r c.requires.basis.formed numbers infos c.requires.basis.numbers c.requires.basis.classes keep p q k j c.in-Some.variable info amounts members here c.in-Some.ensures.some c.conflicting-walk.ensures.members
    (total_is r c.requires.basis.formed numbers n spread c.requires.spread totals weights j times c.requires.class c.requires.totals.counted mine refl k) in
    c.in_ok-add_all.ensures.ok k p q le ∙ ap (λ m. count_at k c.args.rows.now p q + m) added
