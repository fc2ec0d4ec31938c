use Rattle.std.proofs.Common.{◌≡◌, length, replicate, slice_get, sym, ap, ◌∙◌}
use Rattle.std.proofs.Math.ListN.{length-replicate}
use Rattle.trace_rules.proofs.Counts.{slice_get-replicate}
use Rattle.trace_rules.proofs.state.State.new.Goals as goal

pub returns : goal.returns
returns c =
    let r = c.args.raw.now in
    let holds : c.in_ok-vec.field-0.items ≡ replicate c.locks.result c.free.result = c.in_ok-vec.ensures.items_if_clones_equal (λ y same. same) in
    let lives : c.in_ok-vec-2.field-0.items ≡ replicate c.threads.result c.unborn.result = c.in_ok-vec-2.ensures.items_if_clones_equal (λ y same. same) in
    record {
      locks = ap length holds ∙ length-replicate c.locks.result c.free.result ∙ c.locks.ensures.len;
      threads = ap length lives ∙ length-replicate c.threads.result c.unborn.result ∙ c.threads.ensures.len;
      holds = λ l h at. rw (← slice_get-replicate c.locks.result l c.free.result h (ap (λ xs. slice_get xs l) (sym holds) ∙ at)) (c.free.ensures l);
      lives = λ t s at. rw (← slice_get-replicate c.threads.result t c.unborn.result s (ap (λ xs. slice_get xs t) (sym lives) ∙ at)) (c.unborn.ensures t);
    }
