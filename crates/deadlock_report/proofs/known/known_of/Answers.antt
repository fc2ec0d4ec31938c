use Rattle.std.proofs.Common.{◌≡◌, ◌||◌, ℕ, List, Vec, refl, sym, ap, ◌∙◌, subst}
use Rattle.std.specs.List.{slice_split}
use Rattle.std.specs.declared.alloc.Global.{Global}
use Rattle.rapid_text.specs.LinesLeft.{lines_left}
use Rattle.rapid_text.specs.Reading.{is_line_feed}
use Rattle.deadlock_report.specs.Known.{has_key, is_in, known_keys}
use Rattle.deadlock_report.proofs.KnownLemmas.{known-end, known-step}
use Rattle.deadlock_report.proofs.known.known_of.Goals as goal

pub loop-left-init : goal.loop-left-init
loop-left-init c =
    let all = known_keys (slice_split is_line_feed c.args.text.now) in
    subst (λ (texts : List (Vec ℕ Global)). (key : List ℕ) → (has_key texts key || is_in all key) ≡ is_in all key) (sym c.with_hasher-known.ensures.empty) (λ key. refl)

pub loop-left-preserved : goal.loop-left-preserved
loop-left-preserved c =
    known-step c.loop-left.known.keys c.note.new.known.keys (lines_left c.loop-left.left) (lines_left c.first_line.result.1) c.first_line.result.0.now c.block_at.result
    (is_in (known_keys (slice_split is_line_feed c.args.text.now))) c.loop-left.invariant (ap lines_left c.in-Some.is ∙ c.first_line.ensures.lines) c.block_at.ensures c.in_ok-note.ensures

pub returns : goal.returns
returns c =
    known-end c.loop-left.known.keys (lines_left c.loop-left.left) (is_in (known_keys (slice_split is_line_feed c.args.text.now))) c.loop-left.invariant (ap lines_left c.in_default.is)
