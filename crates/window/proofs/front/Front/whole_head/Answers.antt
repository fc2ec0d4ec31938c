use Rattle.std.proofs.Common.{subst}
use Rattle.window.specs.HeadText.{all_kept}
use Rattle.window.specs.Heads.{past_of}
use Rattle.window.specs.Streams.{Stands, Stream}
use Rattle.window.proofs.HeadLemmas.{covers_kept, head_law}
use Rattle.window.proofs.front.Front.whole_head.Goals as goal

pub returns-in-Some-clause-stands : goal.returns-in-Some-clause-stands
returns-in-Some-clause-stands c more =
    let i = c.self.inside in
    let text = c.in_ok-text.text.items in
    subst (λ (t : Stream). Stands t.read text more) c.self.view_is
    (head_law i.read.numbers more (past_of i.known) (all_kept (past_of i.known)) text c.self.invariant.is_past c.in_ok-text.ensures (covers_kept (past_of i.known) more))
