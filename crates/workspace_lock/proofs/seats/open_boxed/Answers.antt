use Rattle.std.proofs.Common.{rules, ◌∙◌, ap, ◌++◌, ◌∷◌, [], Some}
use Rattle.workspace_lock.proofs.DealLemmas.{opens_from}
use Rattle.workspace_lock.proofs.seats.open_boxed.Goals as goal

pub new-requires : goal.new-requires
new-requires c = opens_from c.args.boxed c.of.result.value c.args.clients c.log_len-length.result c.push_reserved.new.self.items c.of.ensures c.log_len-length.ensures.len
    (c.push_reserved.ensures.items ∙ ap (λ l. l ++ Some c.args.boxed ∷ []) c.in-Ok-with_capacity.ensures.items) c.log_len-length.ensures.legal (search rules)
