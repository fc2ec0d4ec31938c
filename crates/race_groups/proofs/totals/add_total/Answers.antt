use Rattle.std.proofs.Common.{◌≡◌, ◌<◌, List, length, All, Some, ℕ, refl, sym, ap, subst, ◌∙◌, arith}
use Rattle.std.specs.List.{slice_get}
use Rattle.std.proofs.lemmas.Option.{slice_get_read}
use Rattle.race_groups.specs.Totals.{weighed_sum}
use Rattle.race_groups.proofs.SpreadLemmas.{entries_now}
use Rattle.race_groups.proofs.TwoClassLemmas.{entries_few, weights_are}
use Rattle.race_groups.proofs.totals.add_total.Goals as goal

pub weights_of-requires-clause-within : goal.weights_of-requires-clause-within
weights_of-requires-clause-within c =
    let spread = c.args.spread.now in
    let j = c.args.class in
    let v = c.index-spread-class.result in
    let at : slice_get spread j ≡ Some v = slice_get_read spread (length spread) j v refl (omega (arith, c.requires.class, c.requires.spread.len)) c.index-spread-class.is in
    let is = entries_now spread j v c.as_slice-entries.result.now at c.as_slice-entries.ensures.value in
    subst (λ (n : ℕ). All (λ (e : ℕ × ℕ). e.0 < n) c.as_slice-entries.result.now) (sym c.threads.ensures.len)
    (subst (λ (xs : List (ℕ × ℕ)). All (λ (e : ℕ × ℕ). e.0 < length c.args.basis.indexed.now.threads) xs) (sym is) (c.requires.spread.within j))

pub weights_of-requires-clause-few : goal.weights_of-requires-clause-few
weights_of-requires-clause-few c =
    let spread = c.args.spread.now in
    let j = c.args.class in
    let v = c.index-spread-class.result in
    let at : slice_get spread j ≡ Some v = slice_get_read spread (length spread) j v refl (omega (arith, c.requires.class, c.requires.spread.len)) c.index-spread-class.is in
    let is = entries_now spread j v c.as_slice-entries.result.now at c.as_slice-entries.ensures.value in
    let few = entries_few c.args.basis.indexed.now c.requires.basis.formed c.args.basis.classes.now.numbers.items (length c.args.basis.classes.now.infos.items) spread c.requires.spread j c.requires.class in
    let same = ap (weighed_sum (λ t. 1)) is in
    omega (arith, few, same)

pub add_weighed-requires-clause-weights : goal.add_weighed-requires-clause-weights
add_weighed-requires-clause-weights c =
    let r = c.args.basis.indexed.now in
    let spread = c.args.spread.now in
    let j = c.args.class in
    let v = c.index-spread-class.result in
    let at : slice_get spread j ≡ Some v = slice_get_read spread (length spread) j v refl (omega (arith, c.requires.class, c.requires.spread.len)) c.index-spread-class.is in
    record {
      len = ap length c.as_slice.ensures.value ∙ c.in_ok-weights.ensures.len ∙ c.threads.ensures.len;
      each = weights_are r c.requires.basis.formed c.args.basis.classes.now.numbers.items (length c.args.basis.classes.now.infos.items) spread c.requires.spread j c.requires.class v
          c.as_slice-entries.result.now c.in_ok-weights.weights.items c.as_slice.result.now c.threads.result at c.as_slice-entries.ensures.value c.as_slice.ensures.value c.threads.ensures.len
          c.in_ok-weights.ensures.weights;
    }
