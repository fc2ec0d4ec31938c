use Rattle.std.proofs.Common.{◌||◌, ◌-◌, ◌∙◌, drop, flat_map, length, take, length-drop, ap, arith}
use Rattle.std.proofs.lemmas.List.{take_all}
use Rattle.window.specs.Heads.{names_of}
use Rattle.window.specs.Streams.{is_named}
use Rattle.window.proofs.LevelLemmas.{joined_is}
use Rattle.window.proofs.levels.joined.Goals as goal

pub returns : goal.returns
returns c =
    let levels = c.args.known.now.levels.items in
    let keep = c.kept_levels-keep.result in
    let none = names_of c.no_names-level.result in
    joined_is names_of levels keep (names_of c.note_all.new.names) none (names_of c.note_levels.new.names) (names_of c.args.names.now) c.no_names-level.ensures
    (λ name.
    c.in_ok-note_levels.ensures name
    ∙ ap (λ ls. is_named none name || is_named (flat_map names_of (take (length ls - keep) (drop keep ls))) name) c.deref.ensures.value
    ∙ ap (λ ls. is_named none name || is_named (flat_map names_of ls) name) (take_all (length levels - keep) (drop keep levels) (omega (arith, length-drop keep levels))))
    c.in_ok-note_all.ensures
