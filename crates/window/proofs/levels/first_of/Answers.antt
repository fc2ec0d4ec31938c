use Rattle.std.proofs.Common.{ℕ, Vec, arith}
use Rattle.std.proofs.lemmas.List.{length-map}
use Rattle.std.proofs.lemmas.Option.{slice_get_within}
use Rattle.window.specs.Heads.{names_of}
use Rattle.window.proofs.KnownLemmas.{table_name}
use Rattle.window.proofs.LevelLemmas.{first_level, level_at}
use Rattle.window.proofs.levels.first_of.Goals as goal

pub returns-then-not-is_empty : goal.returns-then-not-is_empty
returns-then-not-is_empty c =
    let levels = c.args.names.now.levels.items in
    let keys = c.index-level.result.now.keys in
    let at = level_at levels c.loop-at.at c.index-level.result.now (omega (arith, c.loop-at-test.true, c.len-at-end.ensures)) c.index-level.ensures in
    first_level names_of levels c.loop-at.at c.index-level.result.now c.as_slice.result.now at c.loop-at.invariant
    (omega (arith, slice_get_within keys 0 _ c.index.ensures, length-map keys (λ (v : Vec ℕ _). v.items))) (table_name keys 0 _ c.index.ensures _ c.as_slice.ensures.value)
