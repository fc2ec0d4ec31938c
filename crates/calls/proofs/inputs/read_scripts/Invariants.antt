use Rattle.std.specs.Prelude.{◌≡◌, ◌+◌, ◌++◌, List, ℕ, Option, All, map, false, vec_len}
use Rattle.std.specs.Vec.Iter.{into_iter_items, into_iter_len}
use Rattle.calls.specs.ScriptInputs.{AreScripts}
use Rattle.calls.proofs.inputs.read_scripts.Given as goal

-- the scripts of the first readers were read
abbrev pub invariant-loop-reader : goal.invariant-loop-reader
invariant-loop-reader g l = record {
  count : vec_len l.all.scripts + into_iter_len l.reader-iterator ≡ vec_len l.fn.readers;
  working : All (λ s. g.S.Source.has_failed s ≡ false) (into_iter_items l.reader-iterator);
  read : (before : List (Option (List ℕ)))
      × (before ++ map (λ s. g.S.Source.rest s) (into_iter_items l.reader-iterator) ≡ map (λ s. g.S.Source.rest s) l.fn.readers.items)
      × AreScripts 1 before l.all.scripts.items;
}
