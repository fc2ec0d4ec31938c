use Rattle.std.proofs.Common.{get_or, inr, refl, arith}
use Rattle.lock_waits.proofs.GatherLemmas.{Decides-refuted, counts_read}
use Rattle.lock_waits.proofs.requiring.is_refuted_by.Goals as goal

pub returns-then-not-gather : goal.returns-then-not-gather
returns-then-not-gather c = (λ _. inr (c.gather.ensures.unended c.if-not-gather.true), λ _. refl)

pub returns : goal.returns
returns c =
    let row = c.gather.new.row.items in
    Decides-refuted c.args.indexed.now.events c.args.requests.now (λ t. get_or row t 0) (λ t. get_or row t 0) (c.gather.ensures.gathered c.if-not-gather.false) (λ t. omega arith) c.counts_one_of.result
    (counts_read c.args.indexed.now.events c.args.requests.now row c.as_slice.result.now c.as_slice.ensures.value c.counts_one_of.result c.counts_one_of.ensures)
