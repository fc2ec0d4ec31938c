use Rattle.race_parts.proofs.ScanLemmas.{stripped}
use Rattle.race_parts.proofs.scan.strip.Goals as goal

pub returns : goal.returns
returns c = stripped (λ x. x.now) c.strip_prefix.result c.args.text.now c.args.words.now c.strip_prefix.ensures.cases
