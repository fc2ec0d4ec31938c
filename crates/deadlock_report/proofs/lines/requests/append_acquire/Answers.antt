use Rattle.std.proofs.Common.{◌++◌, List, ℕ, ap, ◌∙◌}
use Rattle.explain_report.specs.places.Located.{location_at}
use Rattle.triage_report.specs.lines.Lines.{about_line, location_lines, shown_at}
use Rattle.deadlock_report.proofs.PieceLemmas.{two_pieces}
use Rattle.deadlock_report.proofs.lines.requests.append_acquire.Goals as goal

pub returns : goal.returns
returns c =
    let r = c.args.indexed.now in
    let f = c.args.folder.now in
    let p = c.args.since in
    let old = c.args.out.now.items in
    let about = c.append_about.new.out.items in
    let place = shown_at r f p in
    two_pieces old (about_line r place p) (location_lines f place (location_at r p)) about c.append_calls.new.out.items
    (c.in_ok-append_about.ensures
    ∙ ap (λ (t : List ℕ). old ++ about_line r t p) (c.as_slice.ensures.value ∙ c.in_ok-place.ensures))
    (c.in_ok-append_calls.ensures
    ∙ ap (λ (t : List ℕ). about ++ location_lines f t c.location_of.result.now) (c.as_slice-2.ensures.value ∙ c.in_ok-place.ensures)
    ∙ ap (λ (l : List ℕ). about ++ location_lines f place l) c.location_of.ensures)
