use Rattle.std.proofs.Common.{◌∷◌, rules}
use Rattle.race_parts.proofs.ScanLemmas.{if_some-map, item_front}
use Rattle.race_parts.proofs.scan.+holds_at.Goals as goal

pub returns : goal.returns
returns t c =
    if_some-map c.holds_at.result
    (λ behind next. (
      c.in_ok-behind.field-0-0.now ∷ next.0,
      item_front c.args.is_later c.in_ok-behind.field-0-0.now next.0 c.args.text.now _ behind.now c.in_ok-behind.behind.now (search rules) c.in_ok-behind.ensures next.1,
    ))
    c.holds_at.ensures
