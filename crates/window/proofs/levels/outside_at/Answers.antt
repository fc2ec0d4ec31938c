use Rattle.std.proofs.Common.{◌<◌, ◌∙◌, ℕ, Vec, length, arith, rules}
use Rattle.std.proofs.lemmas.List.{length-map}
use Rattle.std.proofs.lemmas.Option.{slice_get_within}
use Rattle.window.specs.Heads.{level_names, names_of}
use Rattle.window.proofs.KnownLemmas.{outside_more, table_name}
use Rattle.window.proofs.LevelLemmas.{place_at, place_end}
use Rattle.window.proofs.levels.outside_at.Goals as goal

pub returns-then-not-is_noted : goal.returns-then-not-is_noted
returns-then-not-is_noted c =
    let keys = c.args.names.now.keys in
    let within : c.loop-at.at < length (names_of c.args.names.now) = omega (arith, slice_get_within keys c.loop-at.at _ c.index.ensures, length-map keys (λ (v : Vec ℕ _). v.items)) in
    place_at (level_names c.args.others.now) (names_of c.args.names.now) c.loop-at.at c.as_slice.result.now within
    (table_name keys c.loop-at.at _ c.index.ensures _ c.as_slice.ensures.value) (search rules) c.loop-at.invariant

pub loop-at-preserved : goal.loop-at-preserved
loop-at-preserved c =
    outside_more (names_of c.args.names.now) (level_names c.args.others.now) c.loop-at.at c.as_slice.result.now
    (table_name c.args.names.now.keys c.loop-at.at _ c.index.ensures _ c.as_slice.ensures.value) (search rules) c.loop-at.invariant

pub returns : goal.returns
returns c =
    let long = length-map c.args.names.now.keys (λ (v : Vec ℕ _). v.items) in
    let end = place_end (level_names c.args.others.now) (names_of c.args.names.now) c.loop-at.at (omega (arith, c.loop-at-test.false, c.len-at-end.ensures.len, long)) c.loop-at.invariant in
    omega (arith, c.len.ensures.len, long) ∙ end
