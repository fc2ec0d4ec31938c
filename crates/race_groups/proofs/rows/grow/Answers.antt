use Rattle.std.proofs.Common.{◌≡◌, ℕ, ◌+◌, ap, sym, ◌∙◌}
use Rattle.std.proofs.lemmas.Option.{same_Some}
use Rattle.indexmap.proofs.CallerLemmas.{keys-with_value_at, updates-with_value_at}
use Rattle.race_groups.specs.Rows.{part}
use Rattle.race_groups.specs.declared.rows.Sums.{Sums}
use Rattle.race_groups.proofs.RowLemmas.{same_places-equiv}
use Rattle.race_groups.proofs.rows.grow.Goals as goal

pub plus-requires : goal.plus-requires
plus-requires c =
    let pair = c.pair_mut-sums.result in
    record { room = λ k. c.requires.room k (pair.0.now, pair.1.now) c.pair_mut-sums.ensures.value }

pub returns-clause-keys : goal.returns-clause-keys
returns-clause-keys c = keys-with_value_at c.args.rows.now c.args.at c.plus.result

pub returns-clause-updates : goal.returns-clause-updates
returns-clause-updates c = λ e at.
    let pair = c.pair_mut-sums.result in
    let is : e ≡ (pair.0.now, pair.1.now) = same_Some e (pair.0.now, pair.1.now) (sym at ∙ c.pair_mut-sums.ensures.value) in (
      c.plus.result,
      updates-with_value_at c.args.rows.now c.args.at c.plus.result same_places-equiv c.pair_mut-sums.ensures.unique e.0 e.1 at,
      λ k. c.plus.ensures k ∙ ap (λ (v : (ℕ × ℕ) × Sums). part k v.1 + part k c.args.more) (sym is),
    )
