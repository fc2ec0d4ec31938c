use Rattle.std.proofs.Common.{◌∙◌, length, ◌-◌, sym, ap, subst, take, arith}
use Rattle.std.specs.List.{prefix_len, suffix_len}
use Rattle.std.proofs.lemmas.Bool.{eqb-false}
use Rattle.std.proofs.lemmas.List.Sums.{prefix_len-le-length}
use Rattle.rapid_text.specs.Marking.{IsMarked}
use Rattle.rapid_text.specs.Reading.{is_blank, is_bar}
use Rattle.rapid_text.proofs.LineText.{line_reading-fields}
use Rattle.rapid_text.proofs.Marked.{marked-trimmed, marked-after}
use Rattle.rapid_text.proofs.line.read_line.Goals as goal

pub cut_marked-requires : goal.cut_marked-requires
cut_marked-requires c =
    let raw = c.args.raw.now in
    let front = c.trim_start-front.result.now in
    (subst (IsMarked c.behind-marks.result) (sym c.trim_end-line.ensures)
    (marked-trimmed c.behind-marks.result raw front (prefix_len is_blank raw) (length front - suffix_len is_blank front) (prefix_len-le-length is_blank raw) c.trim_start-front.ensures (c.behind-marks.ensures raw c.requires))).bars

pub read_fields-requires : goal.read_fields-requires
read_fields-requires c =
    let raw = c.args.raw.now in
    let front = c.trim_start-front.result.now in
    let line = c.trim_end-line.result.now in
    let marked = subst (IsMarked c.behind-marks.result) (sym c.trim_end-line.ensures)
    (marked-trimmed c.behind-marks.result raw front (prefix_len is_blank raw) (length front - suffix_len is_blank front) (prefix_len-le-length is_blank raw) c.trim_start-front.ensures (c.behind-marks.ensures raw c.requires)) in
    subst (IsMarked c.behind.result) (sym c.in-Some.ensures.after)
    (marked-after is_bar c.behind.result line c.in-Some.thread.now c.in-Some.ensures.found c.in-Some.ensures.before (c.behind.ensures line marked))

pub returns-in-Some : goal.returns-in-Some
returns-in-Some c =
    let trims = ap (λ xs. take (length xs - suffix_len is_blank xs) xs) c.trim_start-front.ensures in
    c.read_fields.ensures
    ∙ line_reading-fields c.args.raw.now c.trim_end-line.result.now c.in-Some.thread.now c.in-Some.rest.now
    (c.trim_end-line.ensures ∙ trims) (eqb-false _ 0 (sym c.is_empty.ensures ∙ c.if-is_empty.false)) (omega arith) c.in-Some.ensures.found c.in-Some.ensures.before c.in-Some.ensures.after
