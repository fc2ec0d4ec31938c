use Rattle.std.proofs.Common.{sym}
use Rattle.rapid_text.specs.Growth.{names_of}
use Rattle.rapid_text.proofs.Numbering.{with_name-found}
use Rattle.rapid_text.proofs.names.NameTable.number.Goals as goal

pub returns-then-is_at-clause-names : goal.returns-then-is_at-clause-names
returns-then-is_at-clause-names c =
    sym (with_name-found (names_of c.args.self.now.names) c.args.name.now c.in-Some.guess (c.is_at.ensures c.if-is_at.true))
