use Rattle.std.proofs.Common.{◌∙◌, ◌++◌, ℕ, List, ap, refl}
use Rattle.window.specs.HeadText.{all_of}
use Rattle.window.specs.Heads.{past_of}
use Rattle.window.proofs.HeadLemmas.{head_made}
use Rattle.window.proofs.known.Known.head.Goals as goal

pub returns : goal.returns
returns c =
    head_made (past_of c.args.self.now) (all_of c.args.raw.now.threads) _ _ _ _ _ _ _ c.new-text.ensures.items c.first_of-first.ensures refl
    c.in_ok-append_calls.ensures c.in_ok-append_reads.ensures
    (c.in_ok-extend_from_slice.ensures.items ∙ ap (λ (t : List ℕ). c.append_reads.new.text.items ++ t) c.as_slice.ensures.value)
    c.in_ok-append_joins.ensures
