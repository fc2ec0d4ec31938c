-- The texts so far are appended.
use Rattle.std.proofs.Common.{◌≡◌, ◌++◌, ℕ, Vec, flat_map, take}
use Rattle.std.specs.declared.alloc.Global.{Global}
use Rattle.triage_file.proofs.writing.append_texts.Given as goal

abbrev pub invariant-loop-text : goal.invariant-loop-text
invariant-loop-text l = l.out.items ≡ l.fn.out.items ++ flat_map (λ (v : Vec ℕ Global). v.items) (take l.text-index l.texts)
