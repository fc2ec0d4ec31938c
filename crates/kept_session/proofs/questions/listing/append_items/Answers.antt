-- Each turn appends the item of one schedule more.
use Rattle.std.proofs.Common.{◌++◌, List, ℕ, slice_get, ap, sym, ◌∙◌, append_assoc}
use Rattle.kept_session.specs.QuestionAnswers.{row_item_at, row_items}
use Rattle.report.proofs.CallerLemmas.{lines-more}
use Rattle.kept_session.proofs.questions.listing.append_items.Goals as goal

pub loop-at-preserved : goal.loop-at-preserved
loop-at-preserved c =
    let L = c.args.bench.now.log in
    let W = c.args.rows.now in
    let before = c.args.out.now.items in
    let n = c.loop-at.at in
    let one : ℕ → List ℕ = λ at. row_item_at L (slice_get W at) in
    c.in_ok-append_row.ensures
    ∙ ap (λ (text : List ℕ). text ++ one n) c.loop-at.invariant
    ∙ append_assoc before (row_items L W n) (one n)
    ∙ ap (λ (items : List ℕ). before ++ items) (sym (lines-more one n))
