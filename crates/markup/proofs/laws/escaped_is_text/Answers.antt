use Rattle.markup.proofs.EscapeLemmas.{escaped_is_text}
use Rattle.markup.proofs.laws.escaped_is_text.Goals as goal

pub returns : goal.returns
returns c = escaped_is_text
