use Rattle.std.proofs.Common.{◌≡◌, ◌++◌, ◌∷◌, [], ℕ, List, Some, Vec, length, sym, ap, subst, ◌∙◌, arith}
use Rattle.std.specs.declared.alloc.Global.{Global}
use Rattle.std.specs.List.{slice_get}
use Rattle.std.proofs.lemmas.List.{length-append}
use Rattle.std.proofs.lemmas.Option.{slice_get-get_or, same_Some}
use Rattle.race_groups.specs.Owners.{AreRuns}
use Rattle.race_groups.proofs.BuildLemmas.{length-cons}
use Rattle.race_groups.proofs.ConflictLemmas.{push_tells}
use Rattle.race_groups.proofs.runs.runs_of.Goals as goal

pub loop-variable-preserved : goal.loop-variable-preserved
loop-variable-preserved c =
    let lists = c.args.lists.now in
    let owners = c.args.owners.now in
    let x = c.loop-variable.variable in
    let old = c.loop-variable.runs.items in
    let found = c.in_ok-found.found in
    let given = c.index-lists-variable.result in
    let now : c.push.new.self.items ≡ old ++ found ∷ [] = c.in_ok-push.ensures.items in
    let at : slice_get lists x ≡ Some given = slice_get-get_or lists x given c.loop-variable-test.true ∙ ap Some (sym c.index-lists-variable.is) in
    record {
      len = omega (arith, ap length now, length-append old (found ∷ []), length-cons found [], c.loop-variable.invariant.len);
      each = λ k r here v is.
          push_tells (λ n (u : Vec ℕ Global). (w : Vec ℕ Global) → slice_get lists n ≡ Some w → AreRuns owners w.items u.items) old found c.loop-variable.invariant.each
          (λ w at_end.
          let same : given ≡ w = same_Some given w (sym at ∙ ap (slice_get lists) (sym c.loop-variable.invariant.len) ∙ at_end) in
          subst (λ (ys : List ℕ). AreRuns owners ys found.items) (c.as_slice.ensures.value ∙ ap (λ (u : Vec ℕ Global). u.items) same) c.in_ok-found.ensures)
          k r (ap (λ xs. slice_get xs k) (sym now) ∙ here) v is;
    }
