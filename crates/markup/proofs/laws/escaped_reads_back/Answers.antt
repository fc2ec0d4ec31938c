use Rattle.markup.proofs.EscapeLemmas.{escaped_reads_back}
use Rattle.markup.proofs.laws.escaped_reads_back.Goals as goal

pub returns : goal.returns
returns c = escaped_reads_back
