use Rattle.std.proofs.Common.{◌++◌, ℕ, List, append_assoc, codes, arith, sym, ap, ◌∙◌}
use Rattle.race_triage.specs.Pieces.{event_words_at}
use Rattle.race_triage.specs.Texts.{held_locks, lock_lines}
use Rattle.race_triage.proofs.PieceLemmas.{access_text-there}
use Rattle.race_triage.proofs.blocks.append_access.Goals as goal

pub returns : goal.returns
returns c =
    let r = c.args.indexed.now in
    let e = c.args.event in
    let old = c.args.out.now.items in
    let line = codes "  " ++ event_words_at r e ++ codes "\n" in
    c.in_ok-append_held.ensures
    ∙ ap (λ (o : List ℕ). o ++ lock_lines r (held_locks r e)) c.in_ok-append_line.ensures
    ∙ append_assoc old line (lock_lines r (held_locks r e))
    ∙ ap (λ (t : List ℕ). old ++ t) (sym (access_text-there r e (omega (arith, c.if-event-len.false, c.len.ensures.len))))
