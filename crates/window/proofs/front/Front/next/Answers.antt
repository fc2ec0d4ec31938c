use Rattle.std.proofs.Common.{◌≡◌, ◌++◌, ℕ, List, Ok, subst}
use Rattle.rapid_text.specs.Reading.{reading_of}
use Rattle.window.specs.Streams.{IsPieceFault}
use Rattle.window.proofs.front.Front.next.Goals as goal

pub returns-in-Ok-clause-ok : goal.returns-in-Ok-clause-ok
returns-in-Ok-clause-ok c =
    let reads = subst (λ (text : List ℕ). reading_of (text ++ c.args.more.now) ≡ Ok c.in-Ok.trace) c.as_slice.ensures.value c.in-Ok.ensures.ok in
    (c.args.head.now.text.items, c.requires.stands, reads, c.requires.size)

pub returns-in-Err-clause-err : goal.returns-in-Err-clause-err
returns-in-Err-clause-err c =
    subst (λ (text : List ℕ). IsPieceFault (text ++ c.args.more.now) c.args.head.now.size c.in-Err.fault) c.as_slice.ensures.value (c.in-Err.ensures.err c.args.head.now.size)
