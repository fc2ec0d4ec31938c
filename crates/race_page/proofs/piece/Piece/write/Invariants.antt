-- So far those items were written.
use Rattle.std.proofs.Common.{◌≡◌, ◌++◌, take}
use Rattle.race_page.specs.Items.{items_text}
use Rattle.race_page.proofs.piece.Piece.write.Given as goal

abbrev pub invariant-loop-item : goal.invariant-loop-item
invariant-loop-item l = l.self ≡ l.fn.self ++ items_text (take l.item-index l.items)
