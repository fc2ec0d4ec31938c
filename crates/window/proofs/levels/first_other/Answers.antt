use Rattle.std.proofs.Common.{◌∙◌, ◌≡◌, ℕ, Vec, [], get_or, arith, ap, sym}
use Rattle.std.proofs.lemmas.List.{length-map}
use Rattle.window.specs.Heads.{level_names, names_of}
use Rattle.window.proofs.KnownLemmas.{table_name}
use Rattle.window.proofs.LevelLemmas.{level_at, outside_found, outside_level}
use Rattle.window.proofs.levels.first_other.Goals as goal

pub returns-then-place-len : goal.returns-then-place-len
returns-then-place-len c =
    let levels = c.args.names.now.levels.items in
    let level = c.index-level.result.now in
    let at = level_at levels c.loop-at.at level (omega (arith, c.loop-at-test.true, c.len-at-end.ensures)) c.index-level.ensures in
    let here : get_or (names_of level) c.outside_at-place.result [] ≡ c.as_slice.result.now = table_name level.keys c.outside_at-place.result _ c.index.ensures _ c.as_slice.ensures.value in
    outside_found (level_names c.args.others.now) names_of levels c.loop-at.at level c.as_slice.result.now at c.loop-at.invariant
    (omega (arith, c.if-place-len.true, c.outside_at-place.ensures, c.len.ensures.len, length-map level.keys (λ (v : Vec ℕ _). v.items)))
    (ap (λ (i : ℕ). get_or (names_of level) i []) (sym c.outside_at-place.ensures) ∙ here)

pub loop-at-preserved : goal.loop-at-preserved
loop-at-preserved c =
    let levels = c.args.names.now.levels.items in
    let level = c.index-level.result.now in
    let at = level_at levels c.loop-at.at level (omega (arith, c.loop-at-test.true, c.len-at-end.ensures)) c.index-level.ensures in
    outside_level (level_names c.args.others.now) names_of levels c.loop-at.at level at c.loop-at.invariant
    (omega (arith, c.if-place-len.false, c.outside_at-place.ensures, c.len.ensures.len, length-map level.keys (λ (v : Vec ℕ _). v.items)))
