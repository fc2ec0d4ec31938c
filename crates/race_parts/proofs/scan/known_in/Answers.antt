use Rattle.race_parts.proofs.ScanLemmas.{row_front}
use Rattle.race_parts.proofs.scan.known_in.Goals as goal

pub returns : goal.returns
returns c =
    let both = c.in_ok-one.ensures in
    let outcome = c.in_ok-rank.ensures in
    row_front _ both.0 both.1 outcome.0 c.args.line.now c.in_ok-one.text.now both.4 outcome.2 both.2 both.3 outcome.1
