use Rattle.std.proofs.Common.{◌<◌, length, arith, rules, slice_index}
use Rattle.std.proofs.lemmas.List.Elements.{All-weaker}
use Rattle.std.proofs.lemmas.List.Sorted.{IsNonDecreasingBy-from_sort_by_key, All-permutation, Contains-permutation, length_permutation}
use Rattle.race_triage.specs.Verdicts.{IsVerdict}
use Rattle.race_triage.proofs.OnceLemmas.{once-permutation}
use Rattle.race_triage.proofs.VerdictLemmas.{AreRising-from, verdict_key, verdicts_small}
use Rattle.race_triage.proofs.verdicts.sort.Goals as goal

pub returns-clause-verdicts : goal.returns-clause-verdicts
returns-clause-verdicts c =
    let found = c.args._found.now in
    let P = IsVerdict found.tables.indexed.now (slice_index found.tables.places.now) found.effort.tries found.effort.apart in
    let old = c.args.verdicts.now.items in
    let new = c.sort_unstable_by_key.new.self.items in
    let same = c.sort_unstable_by_key.ensures.permutation in
    let long = length_permutation old new same in
    record {
      verdicts = All-permutation P old new same c.requires.verdicts;
      complete = λ a b pair.
          let told = c.requires.complete a b pair in (told.0, Contains-permutation old new told.0 same told.1, told.2);
      once = once-permutation old new same c.requires.once;
      few = omega (arith, long, c.requires.few);
    }

pub returns-clause-rising : goal.returns-clause-rising
returns-clause-rising c =
    let r = c.args._found.now.tables.indexed.now in
    let P = IsVerdict r (slice_index c.args._found.now.tables.places.now) c.args._found.now.effort.tries c.args._found.now.effort.apart in
    let vs = c.sort_unstable_by_key.new.self.items in
    let all = All-permutation P c.args.verdicts.now.items vs c.sort_unstable_by_key.ensures.permutation c.requires.verdicts in
    AreRising-from vs
    (verdicts_small r vs c.len-len.ensures.well_formed.events (All-weaker P (λ v. v.first < length r.events) (λ v is. is.first) vs all))
    (IsNonDecreasingBy-from_sort_by_key verdict_key _ c.sort_unstable_by_key.ensures.sorted (λ a r q k. search rules))
