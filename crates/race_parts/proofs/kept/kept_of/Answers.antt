use Rattle.race_parts.proofs.KeptLemmas.{kept_same}
use Rattle.race_parts.proofs.kept.kept_of.Goals as goal

pub returns : goal.returns
returns c name =
    kept_same name c.args.text.now c.in_ok-whole.whole c.in_ok-first.first c.in_ok-second.second c.args.line.now c.args.told.known
    c.in_ok-whole.ensures c.in_ok-first.ensures c.in_ok-second.ensures
