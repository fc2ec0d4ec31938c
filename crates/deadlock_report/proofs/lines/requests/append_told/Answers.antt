use Rattle.std.proofs.Common.{◌++◌, List, ℕ, ap, ◌∙◌}
use Rattle.rapid_text.specs.Recording.{Recording}
use Rattle.explain_report.specs.places.Located.{location_at}
use Rattle.triage_report.specs.lines.Lines.{location_lines, lock_lines}
use Rattle.deadlock_report.specs.Holds.{other_locks}
use Rattle.deadlock_report.specs.lines.Lines.{hold_lines, wait_line}
use Rattle.deadlock_report.proofs.PieceLemmas.{four_pieces}
use Rattle.deadlock_report.proofs.lines.requests.append_told.Goals as goal

pub returns : goal.returns
returns c =
    let r = c.args.analysis.now in
    let f = c.args.folder.now in
    let place = c.args.place.now in
    let e = c.args.request in
    let wanted = c.args.wanted in
    let old = c.args.out.now.items in
    let waited = c.append_wait.new.out.items in
    let others = c.append_others.new.out.items in
    let called = c.append_calls.new.out.items in
    let same = c.indexed-indexed.ensures in
    let located = c.location_of.ensures ∙ ap (λ (q : Recording). location_at q e) same in
    four_pieces old waited others called c.append_hold.new.out.items (wait_line r place e) (lock_lines r place (other_locks r e wanted))
    (location_lines f place (location_at r e)) (hold_lines r f e wanted)
    (c.in_ok-append_wait.ensures ∙ ap (λ (q : Recording). old ++ wait_line q place e) same) c.in_ok-append_others.ensures
    (c.in_ok-append_calls.ensures ∙ ap (λ (l : List ℕ). others ++ location_lines f place l) located)
    c.in_ok-append_hold.ensures
