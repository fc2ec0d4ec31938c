use Rattle.std.proofs.Common.{◌∙◌, bytes_eq}
use Rattle.window.proofs.KnownLemmas.{any-items}
use Rattle.window.proofs.levels.is_in.Goals as goal

pub returns : goal.returns
returns c = c.contains.ensures ∙ any-items (bytes_eq c.args.name.now) c.args.names.now.keys
