use Rattle.std.proofs.Common.{◌≡◌, ◌<◌, ◌++◌, ◌∷◌, [], ℕ, List, All, Some, length, map, slice_index, ap, sym, subst, ◌∙◌, arith}
use Rattle.std.specs.List.{slice_get}
use Rattle.std.proofs.lemmas.Bool.{true≢false}
use Rattle.std.proofs.lemmas.List.{map-append}
use Rattle.std.proofs.lemmas.List.Elements.{All-push}
use Rattle.race_groups.specs.Kinds.{IsRow}
use Rattle.race_groups.specs.declared.kinds.Row.{Row}
use Rattle.race_groups.proofs.RowLemmas.{rises_at, keys_more}
use Rattle.race_groups.proofs.TellLemmas.{kinds_counted}
use Rattle.race_groups.proofs.kinds.rows_of.Goals as goal
use Rattle.race_groups.proofs.kinds.rows_of.Goals.{in-Some+in_ok-push, in_default}

pub loop-at-preserved : goal.loop-at-preserved
loop-at-preserved c =
    let r = c.args.indexed.now in
    let place = slice_index c.args.places.now in
    let k = c.args.classes.now in
    let entries = c.args.counted.now.entries in
    let old = c.loop-at.rows.items in
    let place_of : Row → ℕ × ℕ = λ row. row.places in
    elim c.match-get_index.branch [
      | in-Some+in_ok-push w ↦
          let key = w.in-Some.places.now in
          let sums = w.in-Some.sums.now in
          let row : Row = record { places = key; counts = w.counts.result } in
          let entry : slice_get entries c.loop-at.at ≡ Some (key, sums) = sym w.in-Some.ensures.entry in
          let low = rises_at c.args.counted.now c.requires.counted.are c.loop-at.at key sums entry in
          let is : IsRow r place row =
          kinds_counted r c.len-len.ensures.well_formed c.len-len.ensures.disciplined place k.numbers.items k.infos.items k.lists.keys c.requires.classes c.requires.locks c.args.counted.now c.requires.counted key.0 key.1 low sums w.in-Some.ensures.value w.counts.result w.counts.ensures
          in
          let now : c.match-get_index.rows.items ≡ old ++ row ∷ [] = ap (λ rows. rows.items) w.rows-is ∙ w.in_ok-push.ensures.items in
          record {
            rows = subst (λ (rows : List Row). All (IsRow r place) rows) (sym now) (All-push (IsRow r place) old row c.loop-at.invariant.rows is);
            places = ap (map place_of) now ∙ map-append place_of old (row ∷ []) ∙ ap (λ ks. ks ++ key ∷ []) c.loop-at.invariant.places ∙ sym (keys_more entries c.loop-at.at key sums entry);
          }
      | in_default w ↦
          let inside : c.loop-at.at < length entries = omega (arith, c.loop-at-test.true, c.len-at-end.ensures.len) in
          absurd (true≢false (sym (w.in_default.ensures.found.1 inside)))
    ]
