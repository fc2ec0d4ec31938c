use Rattle.std.proofs.Common.{List, ℕ, ap, sym, subst, ◌∙◌}
use Rattle.std.specs.List.{slice_split}
use Rattle.rapid_text.specs.LinesLeft.{lines_left}
use Rattle.rapid_text.specs.Reading.{is_line_feed}
use Rattle.race_triage.specs.Blocks.{IsReadUpTo}
use Rattle.race_triage.specs.declared.known.Block.TheVariants.{Nothing}
use Rattle.race_triage.specs.Known.{AreKnown}
use Rattle.race_triage.proofs.KnownLemmas.{AreKnown-end, IsReadUpTo-start, IsReadUpTo-step, all_named, only_named}
use Rattle.race_triage.proofs.known.known_of.Goals as goal

pub loop-left-init : goal.loop-left-init
loop-left-init c =
    let keys = c.args.places.now.locations.keys in
    let lines = slice_split is_line_feed c.args.text.now in
    subst (λ (known : List (ℕ × ℕ)). IsReadUpTo keys lines lines Nothing known) (sym c.with_hasher-known.ensures.empty) (IsReadUpTo-start keys lines)

pub loop-left-preserved : goal.loop-left-preserved
loop-left-preserved c =
    IsReadUpTo-step c.args.places.now.locations.keys (slice_split is_line_feed c.args.text.now) (lines_left c.loop-left.left) (lines_left c.first_line.result.1) c.first_line.result.0.now
    c.loop-left.block c.read.result.0 c.read.result.1 c.loop-left.known.keys c.note.new.known.keys c.loop-left.invariant (ap lines_left c.in-Some.is ∙ c.first_line.ensures.lines) c.read.ensures c.in_ok-note.ensures

pub returns : goal.returns
returns c =
    let keys = c.args.places.now.locations.keys in
    let lines = slice_split is_line_feed c.args.text.now in
    let known = c.loop-left.known.keys in
    let whole = subst (λ left. IsReadUpTo keys lines left c.loop-left.block known) (ap lines_left c.in_default.is) c.loop-left.invariant in
    let are : AreKnown keys c.args.text.now known = AreKnown-end keys c.args.text.now c.loop-left.block known whole in
    record {
      known = are;
      named = λ r numbered. only_named r keys c.args.places.now.numbers.items c.args.text.now known are numbered;
      all_named = λ r numbered. all_named r keys c.args.places.now.numbers.items c.args.text.now known are numbered;
    }
