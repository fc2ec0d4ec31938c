use Rattle.script_language.proofs.KeptLemmas.{same_own}
use Rattle.script_language.proofs.plain.PlainCall.of.Goals as goal

pub returns : goal.returns
returns c own = same_own c.args.kept.now.form _ _ _ _ own c.requires.form
