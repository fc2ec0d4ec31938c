use Rattle.std.proofs.Common.{[], rules}
use Rattle.std.specs.Prelude.{codes}
use Rattle.json.specs.Print.{escape_byte}
use Rattle.serde_json.specs.Data.{string, member, no_members}
use Rattle.race_parts.specs.Printed.{undecided_members, whole, IsOutcome}
use Rattle.race_parts.proofs.ScanLemmas.{member_front, whole_text}
use Rattle.race_parts.proofs.scan.undecided_at.Goals as goal

pub returns-then-is_end : goal.returns-then-is_end
unfolding escape_byte
returns-then-is_end c =
    let pairs = c.in_ok-text-2.field-0-0 in
    let tried = c.in_ok-text-3.field-0-0 in
    let variables = c.in_ok-text-4.field-0-0 in
    let third = member (codes "variables") (whole variables) no_members in
    let second = member (codes "tried") (whole tried) third in
    let first = member (codes "pairs") (whole pairs) second in (
      undecided_members pairs tried variables,
      IsOutcome.undecided pairs tried variables c.in_ok-text-2.ensures.fits c.in_ok-text-3.ensures.fits c.in_ok-text-4.ensures.fits,
      whole_text (undecided_members pairs tried variables) c.args.text.now
          (member_front (codes "kind") (string (codes "undecided")) first c.args.text.now c.in_ok-text.text.now [] c.in_ok-text.ensures
          (member_front (codes "pairs") (whole pairs) second c.in_ok-text.text.now c.in_ok-text-2.text.now [] c.in_ok-text-2.ensures.digits
          (member_front (codes "tried") (whole tried) third c.in_ok-text-2.text.now c.in_ok-text-3.text.now [] c.in_ok-text-3.ensures.digits
          (member_front (codes "variables") (whole variables) no_members c.in_ok-text-3.text.now c.in_ok-text-4.text.now [] c.in_ok-text-4.ensures.digits (search rules))))),
    )
