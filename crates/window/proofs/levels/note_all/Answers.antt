use Rattle.window.specs.Heads.{names_of}
use Rattle.window.proofs.KnownLemmas.{noted_item}
use Rattle.window.proofs.levels.note_all.Goals as goal

pub loop-at-preserved : goal.loop-at-preserved
loop-at-preserved c =
    noted_item (names_of c.note_if.new.names) (names_of c.loop-at.names) (names_of c.args.names.now) c.args.others.now.keys c.loop-at.at _ c.index.ensures c.as_slice.result.now c.as_slice.ensures.value
    c.in_ok-note_if.ensures c.loop-at.invariant
