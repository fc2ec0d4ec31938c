use Rattle.std.proofs.Common.{◌≡◌, ℕ, sym, ap, ◌∙◌, arith}
use Rattle.std.proofs.lemmas.Option.{same_Some}
use Rattle.indexmap.specs.IndexMap.{with_value_at}
use Rattle.race_groups.specs.Waiting.{waiting_at, with_more}
use Rattle.race_groups.specs.declared.rows.Sums.{Sums}
use Rattle.race_groups.proofs.rows.settle_at.Goals as goal

pub with_candidates-requires : goal.with_candidates-requires
with_candidates-requires c =
    let pair = c.pair_mut-sums.result in
    let fits = c.requires.fits (pair.0.now, pair.1.now) c.pair_mut-sums.ensures.value in
    omega (arith, fits, c.of-more.ensures)

pub returns : goal.returns
returns c = λ e at.
    let pair = c.pair_mut-sums.result in
    let cells = c.args.waiting.now.cells.items in
    let is : e ≡ (pair.0.now, pair.1.now) = same_Some e (pair.0.now, pair.1.now) (sym at ∙ c.pair_mut-sums.ensures.value) in
    ap (with_value_at c.args.rows.now c.args.at)
    (c.with_candidates.ensures
    ∙ ap (with_more pair.1.now) c.of-more.ensures
    ∙ ap (λ (v : (ℕ × ℕ) × Sums). with_more v.1 (waiting_at cells v.0.0 v.0.1)) (sym is))
