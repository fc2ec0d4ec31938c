use Rattle.window.proofs.StreamLemmas.{rules_law}
use Rattle.window.proofs.laws.stream_keeps_rules.Goals as goal

pub returns : goal.returns
returns c = rules_law
