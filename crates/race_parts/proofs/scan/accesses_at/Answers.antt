use Rattle.json.specs.Print.{escape_byte}
use Rattle.race_parts.proofs.ScanLemmas.{accesses_front}
use Rattle.race_parts.proofs.scan.accesses_at.Goals as goal

pub returns : goal.returns
unfolding escape_byte
returns c =
    let one = c.in_ok-one.ensures in
    let other = c.in_ok-other.ensures in (
      one.0,
      other.0,
      one.1,
      other.1,
      accesses_front one.0 other.0 c.args.line.now c.in_ok-strip.field-0.now c.in_ok-one.text.now c.in_ok-strip-2.field-0.now c.in_ok-other.text.now c.in_ok-strip-3.field-0.now c.in_ok-strip.ensures
          one.2 c.in_ok-strip-2.ensures other.2 c.in_ok-strip-3.ensures,
    )
