use Rattle.std.proofs.Common.{◌++◌, List, ℕ, ap, ◌∙◌}
use Rattle.rapid_text.specs.Recording.{Recording}
use Rattle.race_triage.proofs.HeldLemmas.{held_locks-is}
use Rattle.race_page.specs.Told.{locks_text}
use Rattle.race_page.proofs.accesses.write_locks.Goals as goal

pub returns : goal.returns
returns c =
    let r = c.args.analysis.now in
    c.in_ok-write_held.ensures
    ∙ ap (λ (s : Recording). c.args.piece.now ++ locks_text s c.as_slice.result.now) c.indexed.ensures
    ∙ ap (λ (ls : List ℕ). c.args.piece.now ++ locks_text r ls)
    (c.as_slice.ensures.value ∙ held_locks-is r c.args.event c.in_ok-locks.locks.items c.in_ok-locks.ensures.held)
