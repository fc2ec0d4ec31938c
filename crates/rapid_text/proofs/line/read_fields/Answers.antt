use Rattle.std.proofs.Common.{length, ◌-◌, sym, subst}
use Rattle.std.specs.List.{prefix_len, suffix_len}
use Rattle.std.proofs.lemmas.List.Sums.{prefix_len-le-length}
use Rattle.rapid_text.specs.Marking.{IsMarked}
use Rattle.rapid_text.specs.Reading.{is_blank, is_bar}
use Rattle.rapid_text.proofs.Marked.{marked-trimmed, marked-take}
use Rattle.std.specs.List.{position_or_len}
use Rattle.rapid_text.proofs.line.read_fields.Goals as goal

pub read_operation-requires : goal.read_operation-requires
read_operation-requires c =
    let raw = c.cut_or_all_marked.result.0.now in
    let front = c.trim_start-front.result.now in
    let marked = subst (IsMarked c.args.marks) (sym c.cut_or_all_marked.ensures.before) (marked-take c.args.marks (position_or_len is_bar c.args.rest.now) c.args.rest.now c.requires) in
    subst (IsMarked c.behind-marks.result) (sym c.trim_end-operation.ensures)
    (marked-trimmed c.behind-marks.result raw front (prefix_len is_blank raw) (length front - suffix_len is_blank front) (prefix_len-le-length is_blank raw) c.trim_start-front.ensures (c.behind-marks.ensures raw marked))
