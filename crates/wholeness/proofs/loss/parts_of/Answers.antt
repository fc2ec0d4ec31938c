use Rattle.wholeness.proofs.LossLemmas.{cause_cut, count_cut, from_cut}
use Rattle.wholeness.proofs.loss.parts_of.Goals as goal

pub returns : goal.returns
returns c count from cause is =
    let line = c.args.line.now in
    let one = c.split_at.result in
    let two = c.split_at-2.result in
    let three = c.split_at-3.result in
    record {
      count_is = (count_cut line count from cause is c.from.result.now c.from.ensures one.0.now one.1.now c.split_at.ensures).0;
      from_is = (from_cut line count from cause is c.from.result.now c.from.ensures one.0.now one.1.now c.split_at.ensures c.from-2.result.now c.from-2.ensures two.0.now two.1.now c.split_at-2.ensures).0;
      cause_is = cause_cut line count from cause is c.from.result.now c.from.ensures one.0.now one.1.now c.split_at.ensures c.from-2.result.now c.from-2.ensures two.0.now two.1.now c.split_at-2.ensures c.from-3.result.now c.from-3.ensures three.0.now three.1.now c.split_at-3.ensures;
    }
