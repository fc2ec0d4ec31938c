use Rattle.std.specs.Prelude.{◌≡◌, All, false, vec_len}
use Rattle.racebench.proofs.input.inputs_at.Given as goal

abbrev pub invariant-loop-path : goal.invariant-loop-path
invariant-loop-path l = (vec_len l.inputs ≡ l.path-index) × All (λ input. input.failed ≡ false) l.inputs.items
