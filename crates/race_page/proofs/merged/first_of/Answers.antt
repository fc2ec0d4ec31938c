use Rattle.std.proofs.Common.{◌≡◌, ℕ, take, min, length, ap, ◌∙◌, arith}
use Rattle.std.proofs.lemmas.List.{take_min}
use Rattle.race_page.proofs.merged.first_of.Goals as goal

pub returns : goal.returns
returns c =
    let least : c.min.result ≡ min 2000 (length c.args.kept.now) = omega arith in
    ap (λ (n : ℕ). take n c.args.kept.now) least ∙ take_min 2000 c.args.kept.now
