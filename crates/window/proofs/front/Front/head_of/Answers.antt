use Rattle.std.proofs.Common.{◌≡◌, ◌∙◌, ℕ, List, ap, subst}
use Rattle.rapid_text.specs.Reading.{first_uses, thread_uses}
use Rattle.rapid_text.specs.Recording.{Recording}
use Rattle.window.specs.HeadText.{all_of, head_text}
use Rattle.window.specs.Heads.{past_of}
use Rattle.window.specs.Streams.{Stands, Stream, said_in}
use Rattle.window.proofs.HeadLemmas.{covers_named, head_law}
use Rattle.window.proofs.StreamLemmas.{read_is}
use Rattle.window.proofs.front.Front.head_of.Goals as goal

pub returns-clause-stands : goal.returns-clause-stands
returns-clause-stands c =
    let i = c.self.inside in
    let more = c.args.more.now in
    let text = c.in_ok-text.text.items in
    let threads : c.args.raw.now.threads ≡ first_uses (thread_uses (said_in more)) = ap (λ (s : Recording). s.threads) (read_is more c.args.raw.now c.requires) in
    subst (λ (t : Stream). Stands t.read text more) c.self.view_is
    (head_law i.read.numbers more (past_of i.known) (all_of (first_uses (thread_uses (said_in more)))) text c.self.invariant.is_past
    (c.in_ok-text.ensures ∙ ap (λ (names : List (List ℕ)). head_text (past_of i.known) (all_of names)) threads) (covers_named (past_of i.known) more))

pub returns-clause-is : goal.returns-clause-is
returns-clause-is c = c.in_ok-text.ensures ∙ ap (λ (t : Stream). head_text t.past (all_of c.args.raw.now.threads)) c.self.view_is
