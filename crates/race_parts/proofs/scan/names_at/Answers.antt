use Rattle.std.specs.Prelude.{codes}
use Rattle.json.specs.Print.{escape_byte}
use Rattle.serde_json.specs.Data.{string, member, no_members}
use Rattle.race_parts.proofs.ScanLemmas.{if_some-map, member_front}
use Rattle.race_parts.proofs.scan.names_at.Goals as goal

pub returns : goal.returns
unfolding escape_byte
returns c =
    let o = c.in_ok-text.field-0-0.now in
    let t = c.in_ok-text-2.field-0-0.now in
    let v = c.in_ok-text-3.field-0-0.now in
    if_some-map c.strip.result
    (λ behind last. (
      o,
      t,
      v,
      member_front (codes "operation") (string o) (member (codes "thread") (string t) (member (codes "variable") (string v) no_members)) c.args.text.now c.in_ok-text.text.now behind.now c.in_ok-text.ensures
          (member_front (codes "thread") (string t) (member (codes "variable") (string v) no_members) c.in_ok-text.text.now c.in_ok-text-2.text.now behind.now c.in_ok-text-2.ensures
          (member_front (codes "variable") (string v) no_members c.in_ok-text-2.text.now c.in_ok-text-3.text.now behind.now c.in_ok-text-3.ensures last)),
    ))
    c.strip.ensures
