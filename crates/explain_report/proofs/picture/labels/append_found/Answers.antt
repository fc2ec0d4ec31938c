use Rattle.std.proofs.Common.{◌≡◌, ◌++◌, List, ℕ, ap, sym, ◌∙◌}
use Rattle.rapid_text.specs.Recording.{Recording}
use Rattle.explain_report.specs.picture.Boxes.{label_words}
use Rattle.explain_report.proofs.picture.DrawingLemmas.{label-found}
use Rattle.explain_report.proofs.picture.labels.append_found.Goals as goal

pub returns : goal.returns
returns c =
    let e = c.args.event in
    let old = c.args.out.now.items in
    let same : c.raw-raw.result.now ≡ c.args.indexed.now = c.raw-raw.ensures.same ∙ c.trace.ensures.same in
    c.in_ok-append_of.ensures
    ∙ ap (λ (line : List ℕ). old ++ line) (sym (label-found c.raw-raw.result.now e c.event.result c.location.result.now c.event.ensures.found c.location.ensures))
    ∙ ap (λ (r : Recording). old ++ label_words r e) same
