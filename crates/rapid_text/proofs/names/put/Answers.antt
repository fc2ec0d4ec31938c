use Rattle.std.proofs.Common.{map, sym, ap, ◌∙◌, Some}
use Rattle.std.specs.Prelude.{bytes_eq, position}
use Rattle.std.specs.List.{position_or_len}
use Rattle.rapid_text.specs.Growth.{names_of, with_name}
use Rattle.rapid_text.proofs.Numbering.{items, number-with_name, names-insert_key}
use Rattle.rapid_text.proofs.Positions.{position_or_len-map}
use Rattle.rapid_text.proofs.names.put.Goals as goal

pub returns-clause-names : goal.returns-clause-names
returns-clause-names c =
    ap (map items) c.in_ok-at.ensures.keys
    ∙ names-insert_key c.args.names.now.keys c.in_ok-owned.owned
    ∙ ap (with_name (names_of c.args.names.now)) c.in_ok-owned.ensures.items

pub returns-clause-number : goal.returns-clause-number
returns-clause-number c =
    let keys = c.args.names.now.keys in
    let at = c.in_ok-at.ensures.index
    ∙ ap (λ name. position_or_len (λ v. bytes_eq name (items v)) keys) c.in_ok-owned.ensures.items
    ∙ sym (position_or_len-map items (bytes_eq c.args.name.now) keys) in
    ap (position (bytes_eq c.args.name.now))
    (ap (map items) c.in_ok-at.ensures.keys
    ∙ names-insert_key keys c.in_ok-owned.owned
    ∙ ap (with_name (names_of c.args.names.now)) c.in_ok-owned.ensures.items)
    ∙ number-with_name (names_of c.args.names.now) c.args.name.now
    ∙ ap Some (sym at)
