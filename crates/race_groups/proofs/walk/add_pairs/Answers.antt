use Rattle.std.proofs.Common.{sym, ap, ◌∙◌, arith, ◌+◌}
use Rattle.race_groups.specs.Counts.{keeps}
use Rattle.race_groups.specs.Rows.{part, amount, count_at}
use Rattle.race_groups.proofs.EachPartLemmas.{adds_kept}
use Rattle.race_groups.proofs.WalkLemmas.{if_le}
use Rattle.race_groups.proofs.walk.add_pairs.Goals as goal

pub add-requires-clause-room : goal.add-requires-clause-room
add-requires-clause-room c = λ k p q low.
    let some = if_le (keeps c.args.lists.now.keys k c.args.earlier c.args.later) (amount k c.args.share) in
    omega (arith, some, c.sums_of-sums.ensures k, c.requires.room k p q low)

pub returns-clause-ok : goal.returns-clause-ok
returns-clause-ok c = λ k p q low.
    c.in_ok-add.ensures.ok k p q low
    ∙ ap (λ n. count_at k c.args.rows.now p q + n)
    (adds_kept c.args.lists.now.keys k p q c.args.earlier c.args.later (amount k c.args.share) (part k c.sums_of-sums.result) (sym c.clash.ensures ∙ c.if-not-clash.false) (c.sums_of-sums.ensures k))
