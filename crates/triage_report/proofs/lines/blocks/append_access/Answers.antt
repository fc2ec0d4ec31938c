use Rattle.std.proofs.Common.{◌++◌, ℕ, List, sym, ap, ◌∙◌, arith}
use Rattle.race_triage.specs.Texts.{held_locks}
use Rattle.explain_report.specs.places.Located.{location_at}
use Rattle.explain_report.specs.places.Places.{behind_arrow, calls_in}
use Rattle.explain_report.specs.declared.places.arrows.TheConstants.{MAX_CALLS}
use Rattle.triage_report.specs.lines.Lines.{about_line, call_lines, lock_lines}
use Rattle.triage_report.proofs.lines.LineLemmas.{access_lines-there, three_pieces}
use Rattle.triage_report.proofs.lines.blocks.append_access.Goals as goal

pub returns : goal.returns
returns c =
    let same = c.indexed-indexed.ensures in
    let r = c.indexed-indexed.result.now in
    let f = c.args.folder.now in
    let place = c.args.place.now in
    let e = c.args.event in
    let old = c.args.out.now.items in
    let about = c.append_about.new.out.items in
    let held = c.append_held.new.out.items in
    rw (← same)
    (three_pieces old about held c.append_calls.new.out.items (about_line r place e) (lock_lines r place (held_locks r e))
    (call_lines f place (calls_in MAX_CALLS (behind_arrow (location_at r e)))) c.in_ok-append_about.ensures (simp (sym same) at c.in_ok-append_held.ensures)
    (c.in_ok-append_calls.ensures
    ∙ ap (λ (location : List ℕ). held ++ call_lines f place (calls_in MAX_CALLS (behind_arrow location))) c.location_of.ensures)
    ∙ ap (λ (t : List ℕ). old ++ t) (sym (access_lines-there r f place e (omega (arith, c.if-event-len.false, c.len.ensures.len)))))
