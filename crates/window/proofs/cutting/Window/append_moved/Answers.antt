use Rattle.std.proofs.Common.{◌++◌, ℕ, List, sym, subst}
use Rattle.std.proofs.lemmas.List.{append_assoc}
use Rattle.window.specs.Moving.{IsMoved, moved_digits}
use Rattle.window.proofs.MovingLemmas.{moved_more, some_of, written_more}
use Rattle.window.proofs.cutting.Window.append_moved.Goals as goal

pub numbers-preserved : goal.numbers-preserved
numbers-preserved c =
    let n = c.args.self.now.prologue in
    let k = c.args.self.now.from in
    let was = c.numbers.invariant in
    let found = some_of _ _ _ c.in-Some.is c.in_ok-rest.ensures.some in
    let m = found.0 in
    let piece : List ℕ = m.front ++ moved_digits n k m.digits in (
      was.0 ++ piece,
      written_more c.args.out.now.items was.0 _ _ piece was.1 found.3,
      λ moved later.
          subst (IsMoved n k c.args.line.now) (sym (append_assoc was.0 piece moved))
          (was.2 (piece ++ moved) (moved_more n k _ m _ moved found.1 found.2 later)),
    )
