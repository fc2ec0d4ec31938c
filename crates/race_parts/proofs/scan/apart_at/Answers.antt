use Rattle.std.proofs.Common.{[], rules}
use Rattle.std.specs.Prelude.{codes}
use Rattle.json.specs.Print.{escape_byte}
use Rattle.serde_json.specs.Data.{string, member, no_members}
use Rattle.race_parts.specs.Printed.{apart_members, whole, IsOutcome}
use Rattle.race_parts.proofs.ScanLemmas.{member_front, whole_text}
use Rattle.race_parts.proofs.scan.apart_at.Goals as goal

pub returns-then-is_end : goal.returns-then-is_end
unfolding escape_byte
returns-then-is_end c =
    let pairs = c.in_ok-text-2.field-0-0 in (
      apart_members pairs,
      IsOutcome.apart pairs c.in_ok-text-2.ensures.fits,
      whole_text (apart_members pairs) c.args.text.now
          (member_front (codes "kind") (string (codes "apart")) (member (codes "pairs") (whole pairs) no_members) c.args.text.now c.in_ok-text.text.now [] c.in_ok-text.ensures
          (member_front (codes "pairs") (whole pairs) no_members c.in_ok-text.text.now c.in_ok-text-2.text.now [] c.in_ok-text-2.ensures.digits (search rules))),
    )
