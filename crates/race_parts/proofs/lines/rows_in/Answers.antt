use Rattle.std.proofs.Common.{◌≡◌, List, [], length, subst, sym}
use Rattle.std.proofs.lemmas.Bool.{eqb-true}
use Rattle.std.proofs.lemmas.List.{nil_from_length}
use Rattle.serde_json.specs.View.{view}
use Rattle.race_parts.specs.Kept.{IsKeeping}
use Rattle.race_parts.specs.declared.kept.KeptRow.{KeptRow}
use Rattle.race_parts.specs.declared.rows.Mark.{Mark}
use Rattle.race_parts.proofs.KeptLemmas.{if_some-at, kept_all, keeping_begins, keeping_goes_on}
use Rattle.race_parts.proofs.LineLemmas.{AreMarked, marked_begin, marked_go_on}
use Rattle.race_parts.proofs.lines.rows_in.Goals as goal

pub lines-init : goal.lines-init
lines-init c = (
  subst (λ (ms : List Mark). AreMarked c.args.text.now c.args.begun.now.rest.now (view c.args.begun.now.head) ms) (sym c.new-marks.ensures.items)
      (marked_begin c.args.text.now c.args.begun.now.rest.now (view c.args.begun.now.head) c.requires),
  λ yes. subst (λ (ks : List KeptRow). IsKeeping c.args.text.now c.args.begun.now.rest.now ks) (sym c.new-rows.ensures.items)
      (keeping_begins c.args.text.now c.args.begun.now.rest.now (view c.args.begun.now.head) c.requires),
)

pub lines-preserved : goal.lines-preserved
lines-preserved c = (
  marked_go_on c.args.text.now c.lines.rest.now c.in_ok-seen.behind.now (view c.args.begun.now.head) c.lines.marks.items c.keep_mark.new.marks.items c.in_ok-seen.seen.mark c.lines.invariant.0
      c.in_ok-seen.ensures.ok c.in_ok-keep_mark.ensures.ok,
  λ yes.
      let some = c.is_kept-all.ensures.row yes in
      keeping_goes_on c.args.text.now c.lines.rest.now c.in_ok-seen.behind.now c.lines.rows.items c.keep_row.new.rows.items some.0 (c.lines.invariant.1 (c.is_kept-all.ensures.all yes))
      (if_some-at _ c.in_ok-seen.seen.row some.0 c.in_ok-seen.ensures.row some.1) (if_some-at _ c.in_ok-seen.seen.row some.0 c.in_ok-keep_row.ensures some.1),
)

pub returns-clause-rows : goal.returns-clause-rows
returns-clause-rows c =
    let none : c.lines.rest.now ≡ [] = nil_from_length c.lines.rest.now (eqb-true (length c.lines.rest.now) 0 (sym c.lines-test.ensures)) in
    kept_all c.args.text.now c.lines.rest.now c.kept_if-rows.result c.lines.rows c.lines.all c.kept_if-rows.ensures c.lines.invariant.1 none
