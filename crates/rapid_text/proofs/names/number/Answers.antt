use Rattle.std.proofs.Common.{sym, ◌∙◌}
use Rattle.std.specs.Prelude.{bytes_eq}
use Rattle.rapid_text.specs.Growth.{names_of}
use Rattle.rapid_text.proofs.Numbering.{items, with_name-found}
use Rattle.rapid_text.proofs.Positions.{position-map}
use Rattle.rapid_text.proofs.names.number.Goals as goal

pub returns-in-Some-clause-number : goal.returns-in-Some-clause-number
returns-in-Some-clause-number c = position-map items (bytes_eq c.args.name.now) c.args.names.now.keys ∙ sym c.in-Some.ensures.index

pub returns-in-Some-clause-names : goal.returns-in-Some-clause-names
returns-in-Some-clause-names c =
    sym (with_name-found (names_of c.args.names.now) c.args.name.now c.in-Some.at
    (position-map items (bytes_eq c.args.name.now) c.args.names.now.keys ∙ sym c.in-Some.ensures.index))
