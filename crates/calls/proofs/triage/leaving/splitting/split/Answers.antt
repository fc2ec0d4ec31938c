use Rattle.std.proofs.Common.{◌≡◌, ◌+◌, ◌&&◌, false, None, drop, rules, ap, ◌∙◌}
use Rattle.race_parts.specs.Texts.{is_new}
use Rattle.calls.specs.triage.LeavingSplitting.{drops_first, is_out, leaving, staying}
use Rattle.calls.proofs.triage.LeavingSplitLemmas.{first_out, gone-more, stay-more}
use Rattle.calls.proofs.triage.leaving.splitting.split.Goals as goal

pub cells-preserved : goal.cells-preserved
cells-preserved c =
    let test = drops_first c.args.rows.now c.args.test in
    let before = c.cells.before in
    let cell = c.cell_at-cell.result in
    let left = drop c.cells.at c.args.cells.now in
    let behind = drop (c.cells.at + 1) c.args.cells.now in
    let cut = c.cell_at-cell.ensures in
    let out = c.in_ok-is_out.is_out in
    let is : out ≡ is_out test (is_new before cell) c.cells.is_out left =
    c.in_ok-is_out.ensures
    ∙ ap (λ b. is_out test b c.cells.is_out c.rest_at.result.now) c.is_new-is_first.ensures
    ∙ ap (is_out test (is_new before cell) c.cells.is_out) c.rest_at.ensures in
    let gone = c.are_both.ensures ∙ ap (λ b. b && out) c.is_new-is_first.ensures ∙ first_out test (is_new before cell) c.cells.is_out out cell behind left cut is in (
      stay-more test before cell behind left c.cells.stay.items c.keep.new.cells.items (staying test None false c.args.cells.now) c.cells.is_out out cut is
          c.in_ok-keep.ensures c.cells.invariant.0,
      gone-more test before cell behind left c.cells.gone.items c.keep-in-cells.new.cells.items (leaving test None c.args.cells.now) c.are_both.result cut gone
          c.in_ok-keep-2.ensures c.cells.invariant.1,
      search rules,
    )
