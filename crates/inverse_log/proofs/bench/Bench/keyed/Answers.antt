use Rattle.std.proofs.Common.{◌∙◌, subst}
use Rattle.rapid_text.specs.Recording.{Recording}
use Rattle.trace_rules.specs.Rules.{IsDisciplined}
use Rattle.inverse_log.proofs.DoLemmas.{new_bench}
use Rattle.inverse_log.proofs.bench.Bench.keyed.Goals as goal

pub invariant_of-result : goal.invariant_of-result
invariant_of-result c =
    let rules = subst (λ (T : Recording). IsDisciplined T.events) c.deref.ensures c.len.ensures.disciplined in
    rw c.new.ensures.edits
    (new_bench _ c.new-2.result.items c.new.result.rows c.empty-2.result c.new-3.result.items c.keyed-2.result c.in-Ok.clients rules c.new-2.ensures.items (c.new.ensures.rows ∙ c.keyed.ensures) c.empty-2.ensures c.new-3.ensures.items c.keyed-2.ensures c.in-Ok.ensures)
