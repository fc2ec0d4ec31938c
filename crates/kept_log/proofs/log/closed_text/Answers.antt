use Rattle.std.proofs.Common.{refl}
use Rattle.kept_log.proofs.FileLemmas.{block_text}
use Rattle.kept_log.proofs.log.closed_text.Goals as goal

pub returns-clause-text : goal.returns-clause-text
returns-clause-text c = block_text c.args.block c.into_text-text.result.items c.push.new.self.items _ c.into_text-text.ensures.text c.in-Ok.ensures.items refl
