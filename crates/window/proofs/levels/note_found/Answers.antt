use Rattle.std.proofs.Common.{[], false, slice_index_or, sym, refl}
use Rattle.std.proofs.lemmas.Option.{get_or_from_slice_get}
use Rattle.window.specs.Heads.{level_names, names_of}
use Rattle.window.proofs.LevelLemmas.{found_new}
use Rattle.window.proofs.levels.note_found.Goals as goal

pub loop-thread-preserved : goal.loop-thread-preserved
loop-thread-preserved c =
    found_new (level_names c.args.known.now) c.args.raw.now.threads (λ t. slice_index_or c.args.found.now t false) (names_of c.note_if.new.names) (names_of c.loop-thread.names)
    (names_of c.args.names.now) c.loop-thread.thread _ _ _ c.is_new-new.ensures c.in_ok-note_if.ensures c.loop-thread.invariant refl
    (sym (get_or_from_slice_get c.args.raw.now.threads c.loop-thread.thread _ [] c.thread_name-name.ensures))
