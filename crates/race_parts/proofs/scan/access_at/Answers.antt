use Rattle.std.proofs.Common.{◌++◌, ◌∷◌, [], ◌∙◌, ap, List, ℕ}
use Rattle.std.specs.Prelude.{codes}
use Rattle.json.specs.Print.{quoted, escape_byte}
use Rattle.serde_json.specs.Data.{string, array, member}
use Rattle.race_parts.specs.Printed.{names_members, strings, whole, IsAccess}
use Rattle.race_parts.proofs.ScanLemmas.{member_front, object_front}
use Rattle.race_parts.proofs.scan.access_at.Goals as goal

pub returns : goal.returns
unfolding escape_byte
returns c =
    let e = c.in_ok-event.event in
    let holds = c.in_ok-text.ensures.0 in
    let location = c.in_ok-location.location.now in
    let names = c.in_ok-names_at.ensures in
    let last = names_members names.0 names.1 names.2 in
    let behind = c.in_ok-names_at.field-0.now in (
      _,
      IsAccess.access e holds location names.0 names.1 names.2 c.in_ok-event.ensures.fits,
      object_front (codes "event") (whole e) (member (codes "holds") (array (strings holds)) (member (codes "location") (string location) last)) c.args.text.now c.in_ok-event.text.now behind
          c.in_ok-event.ensures.digits
          (member_front (codes "holds") (array (strings holds)) (member (codes "location") (string location) last) c.in_ok-event.text.now c.in_ok-text.text.now behind
          (c.in_ok-strip.ensures ∙ ap (λ (xs : List ℕ). 44 ∷ ((quoted (codes "holds") ++ 58 ∷ []) ++ 91 ∷ xs)) c.in_ok-text.ensures.1)
          (member_front (codes "location") (string location) last c.in_ok-text.text.now c.in_ok-location.text.now behind c.in_ok-location.ensures names.3)),
    )
