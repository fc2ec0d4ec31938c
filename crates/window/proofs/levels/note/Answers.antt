use Rattle.std.proofs.Common.{map, ap, ◌∙◌}
use Rattle.rapid_text.specs.Growth.{with_name}
use Rattle.rapid_text.proofs.Numbering.{items, names-insert_key}
use Rattle.window.specs.Heads.{names_of}
use Rattle.window.proofs.levels.note.Goals as goal

pub returns : goal.returns
returns c =
    ap (map items) c.in_ok-insert.ensures.keys
    ∙ names-insert_key c.args.names.now.keys c.in_ok-owned.owned
    ∙ ap (with_name (names_of c.args.names.now)) c.in_ok-owned.ensures.items
