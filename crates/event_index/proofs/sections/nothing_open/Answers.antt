use Rattle.std.proofs.Common.{replicate, None, ap, ◌∙◌}
use Rattle.event_index.proofs.SectionLemmas.{nothing_known}
use Rattle.event_index.proofs.sections.nothing_open.Goals as goal

pub returns : goal.returns
returns c =
    nothing_known c.args.raw.now _ (c.in_ok-none_for.ensures ∙ ap (λ n. replicate n None) c.len.ensures.len)
    (c.in_ok-none_for-2.ensures ∙ ap (λ n. replicate n None) c.locks.ensures.len)
    (c.in_ok-none_for-3.ensures ∙ ap (λ n. replicate n None) c.len-2.ensures.len)
