use Rattle.std.proofs.lemmas.Bool.{eqb-false}
use Rattle.json.proofs.Printed.Strings.{escape_byte_plain}
use Rattle.race_parts.proofs.quotes.is_stop.Goals as goal

pub returns-else-byte-eq34 : goal.returns-else-byte-eq34
returns-else-byte-eq34 c e = escape_byte_plain c.args.byte c.if-byte-eq34.false.1 (eqb-false c.args.byte 92 e) c.if-byte-eq34.false.0
