use Rattle.std.proofs.Common.{◌≡◌, ℕ, Vec, length, subst, arith}
use Rattle.std.proofs.lemmas.List.{length-map}
use Rattle.rapid_text.specs.Reading.{first_uses, thread_uses}
use Rattle.window.specs.Heads.{names_of, past_of}
use Rattle.window.specs.Streams.{Stream, said_in}
use Rattle.window.proofs.FrontLemmas.{threads_are}
use Rattle.window.proofs.KnownLemmas.{distinct_items}
use Rattle.window.proofs.front.Front.threads.Goals as goal

pub returns : goal.returns
returns c =
    let i = c.self.inside in
    let keys = c.in_ok-all.all.keys in
    let threads = threads_are i.read.numbers (past_of i.known) (names_of c.in_ok-all.all) c.self.invariant.is_past (distinct_items keys c.len.ensures.unique) c.in_ok-all.ensures in
    subst (λ (t : Stream). c.len.result ≡ length (first_uses (thread_uses (said_in t.read)))) c.self.view_is
    (omega (arith, c.len.ensures.len, length-map keys (λ (v : Vec ℕ _). v.items), threads))
