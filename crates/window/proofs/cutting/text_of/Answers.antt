use Rattle.window.proofs.LineLemmas.{window_is}
use Rattle.window.proofs.cutting.text_of.Goals as goal

pub returns : goal.returns
returns c =
    window_is c.args.trace.now c.args.own.now _ _ c.args.from c.args.to _ _ _ _ _ _ c.new-text.ensures.items c.in_ok-append_begin.ensures c.in_ok-append_prologue.ensures c.in_ok-append_part.ensures c.requires.size c.requires.events c.from.ensures c.from-2.ensures
