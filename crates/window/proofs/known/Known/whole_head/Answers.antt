use Rattle.std.proofs.Common.{◌∙◌, ◌++◌, ℕ, List, ap}
use Rattle.window.specs.HeadText.{all_kept}
use Rattle.window.specs.Heads.{past_of}
use Rattle.window.proofs.HeadLemmas.{head_made}
use Rattle.window.proofs.known.Known.whole_head.Goals as goal

pub returns : goal.returns
returns c =
    head_made (past_of c.args.self.now) (all_kept (past_of c.args.self.now)) _ _ _ _ _ _ _ c.new-text.ensures.items c.first_of-first.ensures c.first_other-other.ensures
    c.in_ok-append_all_calls.ensures c.in_ok-append_all_reads.ensures
    (c.in_ok-extend_from_slice.ensures.items ∙ ap (λ (t : List ℕ). c.append_all_reads.new.text.items ++ t) c.as_slice.ensures.value)
    c.in_ok-append_all_calls-2.ensures
