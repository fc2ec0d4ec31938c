use Rattle.std.proofs.Common.{◌+◌, ◌<◌, ◌∙◌, cond, count_by, get_or, length, take, refl, sym, ap, subst, arith}
use Rattle.std.proofs.lemmas.List.{length-take-le, take_all, take_more}
use Rattle.std.proofs.lemmas.List.Sums.{count_by-le-length}
use Rattle.variable_uses.specs.Columns.{IsMoving}
use Rattle.variable_uses.specs.Numbers.{has_number}
use Rattle.variable_uses.proofs.ColumnLemmas.{AreNone-moved, IsColumnPut-moved, IsMoving-begin, IsMoving-more, count_push}
use Rattle.variable_uses.proofs.columns.put_lock.Goals as goal

pub count-requires-clause-number : goal.count-requires-clause-number
count-requires-clause-number c =
    let within = c.requires.list c.loop-at.at 0 c.loop-at-test.true in
    let le = c.requires.numbers (get_or c.args.list.now c.loop-at.at 0) 0 within in
    omega (arith, le, c.loop-at.invariant.len)

pub count-requires-clause-room : goal.count-requires-clause-room
count-requires-clause-room c = λ k lt.
    let is = c.loop-at.invariant.counts k lt in
    let few = count_by-le-length (has_number c.args.numbers.now k) (take c.loop-at.at c.args.list.now) in
    let len = length-take-le c.loop-at.at c.args.list.now (omega (arith, c.loop-at-test.true)) in
    omega (arith, is, few, len, c.loop-at-test.true, c.requires.few)

pub loop-at-preserved : goal.loop-at-preserved
loop-at-preserved c = record {
  len = c.count.ensures.len ∙ c.loop-at.invariant.len;
  counts = λ k lt.
      let old : k < length c.loop-at.counts = omega (arith, lt, c.count.ensures.len) in
      c.count.ensures.counts k old ∙ ap (λ n. n + cond (has_number c.args.numbers.now k (get_or c.args.list.now c.loop-at.at 0)) 1 0) (c.loop-at.invariant.counts k old)
      ∙ sym (ap (count_by (has_number c.args.numbers.now k)) (take_more c.args.list.now c.loop-at.at 0 c.loop-at-test.true) ∙ count_push (has_number c.args.numbers.now k) (take c.loop-at.at c.args.list.now) (get_or c.args.list.now c.loop-at.at 0));
}

pub loop-at-2-init : goal.loop-at-2-init
loop-at-2-init c = record {
  len = c.loop-at.invariant.len;
  columns_len = refl;
  moving = IsMoving-begin c.args.numbers.now c.args.list.now c.args.lock c.loop-at.counts c.args.columns.now.items (λ k lt.
      c.loop-at.invariant.counts k lt ∙ ap (count_by (has_number c.args.numbers.now k)) (take_all c.loop-at.at c.args.list.now (omega (arith, c.loop-at-test.false))));
}

pub put-requires-clause-number : goal.put-requires-clause-number
put-requires-clause-number c =
    let within = c.requires.list c.loop-at-2.at 0 c.loop-at-2-test.true in
    let le = c.requires.numbers (get_or c.args.list.now c.loop-at-2.at 0) 0 within in
    omega (arith, le, c.loop-at-2.invariant.len)

pub loop-at-2-preserved : goal.loop-at-2-preserved
loop-at-2-preserved c = record {
  len = c.put.ensures.lens ∙ c.loop-at-2.invariant.len;
  columns_len = c.put.ensures.len ∙ c.loop-at-2.invariant.columns_len;
  moving =
      subst (λ es. IsMoving c.args.numbers.now c.args.list.now es c.args.lock c.put.new.counts c.args.columns.now.items c.put.new.columns.items) (sym (take_more c.args.list.now c.loop-at-2.at 0 c.loop-at-2-test.true))
      (IsMoving-more c.args.numbers.now c.args.list.now (take c.loop-at-2.at c.args.list.now) c.args.lock (get_or c.args.list.now c.loop-at-2.at 0) c.loop-at-2.counts c.put.new.counts c.args.columns.now.items c.loop-at-2.columns.items
      c.put.new.columns.items c.loop-at-2.invariant.moving c.in_ok-put.ensures.counts c.put.ensures.lens (omega (arith, c.loop-at-2.invariant.columns_len, c.loop-at-2.invariant.len, c.requires.columns)) c.in_ok-put.ensures.put);
}

pub returns-clause-none : goal.returns-clause-none
returns-clause-none c =
    let whole = take_all c.loop-at-2.at c.args.list.now (omega (arith, c.loop-at-2-test.false)) in
    AreNone-moved c.args.numbers.now c.args.list.now c.args.lock c.loop-at-2.counts c.args.columns.now.items c.loop-at-2.columns.items
    (subst (λ es. IsMoving c.args.numbers.now c.args.list.now es c.args.lock c.loop-at-2.counts c.args.columns.now.items c.loop-at-2.columns.items) whole c.loop-at-2.invariant.moving)

pub returns-clause-put : goal.returns-clause-put
returns-clause-put c =
    let whole = take_all c.loop-at-2.at c.args.list.now (omega (arith, c.loop-at-2-test.false)) in
    IsColumnPut-moved c.args.numbers.now c.args.list.now c.args.lock c.loop-at-2.counts c.args.columns.now.items c.loop-at-2.columns.items
    (subst (λ es. IsMoving c.args.numbers.now c.args.list.now es c.args.lock c.loop-at-2.counts c.args.columns.now.items c.loop-at-2.columns.items) whole c.loop-at-2.invariant.moving)
