use Rattle.std.proofs.Common.{refl}
use Rattle.window.proofs.LineLemmas.{begun}
use Rattle.window.proofs.lines.append_begin.Goals as goal

pub returns : goal.returns
returns c =
    begun c.args.text.now.items _ _ _ _ _ _ _ _ _ c.in_ok-append_number.ensures c.in_ok-append_number-2.ensures c.in_ok-append_number-3.ensures c.in_ok-extend_from_slice.ensures.items
    refl refl
