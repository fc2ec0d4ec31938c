use Rattle.std.proofs.Common.{[], rules}
use Rattle.std.specs.Prelude.{codes}
use Rattle.json.specs.Print.{escape_byte}
use Rattle.serde_json.specs.Data.{string, member, no_members}
use Rattle.race_parts.specs.Printed.{race_members, whole, IsOutcome}
use Rattle.race_parts.proofs.ScanLemmas.{member_front, whole_text}
use Rattle.race_parts.proofs.scan.race_at.Goals as goal

pub returns-then-is_end : goal.returns-then-is_end
unfolding escape_byte
returns-then-is_end c =
    let events = c.in_ok-events.events in
    let how = c.in_ok-how.how.now in
    let pairs = c.in_ok-text-2.field-0-0 in
    let threads = c.in_ok-text-3.field-0-0 in
    let variables = c.in_ok-text-4.field-0-0 in
    let fifth = member (codes "variables") (whole variables) no_members in
    let fourth = member (codes "threads") (whole threads) fifth in
    let third = member (codes "pairs") (whole pairs) fourth in
    let second = member (codes "kind") (string (codes "race")) third in
    let first = member (codes "how") (string how) second in (
      race_members events how pairs threads variables,
      IsOutcome.race events how pairs threads variables (search rules) c.in_ok-events.ensures.fits c.in_ok-text-2.ensures.fits c.in_ok-text-3.ensures.fits c.in_ok-text-4.ensures.fits,
      whole_text (race_members events how pairs threads variables) c.args.text.now
          (member_front (codes "events") (whole events) first c.args.text.now c.in_ok-events.text.now [] c.in_ok-events.ensures.digits
          (member_front (codes "how") (string how) second c.in_ok-events.text.now c.in_ok-how.text.now [] c.in_ok-how.ensures
          (member_front (codes "kind") (string (codes "race")) third c.in_ok-how.text.now c.in_ok-text.text.now [] c.in_ok-text.ensures
          (member_front (codes "pairs") (whole pairs) fourth c.in_ok-text.text.now c.in_ok-text-2.text.now [] c.in_ok-text-2.ensures.digits
          (member_front (codes "threads") (whole threads) fifth c.in_ok-text-2.text.now c.in_ok-text-3.text.now [] c.in_ok-text-3.ensures.digits
          (member_front (codes "variables") (whole variables) no_members c.in_ok-text-3.text.now c.in_ok-text-4.text.now [] c.in_ok-text-4.ensures.digits (search rules))))))),
    )
