use Rattle.std.proofs.Common.{◌≡◌, ◌++◌, ◌∷◌, [], ◌<◌, ℕ, List, All, Some, Vec, filter, length, sym, ap, subst, ◌∙◌, arith}
use Rattle.std.specs.declared.alloc.Global.{Global}
use Rattle.std.specs.List.{slice_get}
use Rattle.std.proofs.lemmas.List.{length-append}
use Rattle.std.proofs.lemmas.Option.{slice_get-get_or}
use Rattle.race_groups.specs.Classes.{is_writing, members_of, writers_of}
use Rattle.race_groups.proofs.BuildLemmas.{length-cons}
use Rattle.race_groups.proofs.ConflictLemmas.{push_tells}
use Rattle.race_groups.proofs.WholeLemmas.{members_within}
use Rattle.race_groups.proofs.writers.writers_of.Goals as goal

pub writing-requires : goal.writing-requires
writing-requires c =
    let infos = c.args.infos.now in
    let x = c.loop-variable.variable in
    let v = c.index-members-variable.result in
    let is : c.as_slice.result.now ≡ members_of infos x =
    c.as_slice.ensures.value ∙ c.requires.members.lists x v (slice_get-get_or c.args.members.now x v c.loop-variable-test.true ∙ ap Some (sym c.index-members-variable.is))
    in subst (λ (xs : List ℕ). All (λ c. c < length infos) xs) (sym is) (members_within infos x)

pub loop-variable-preserved : goal.loop-variable-preserved
loop-variable-preserved c =
    let infos = c.args.infos.now in
    let x = c.loop-variable.variable in
    let v = c.index-members-variable.result in
    let old = c.loop-variable.writers.items in
    let found = c.in_ok-found.found in
    let is : c.as_slice.result.now ≡ members_of infos x =
    c.as_slice.ensures.value ∙ c.requires.members.lists x v (slice_get-get_or c.args.members.now x v c.loop-variable-test.true ∙ ap Some (sym c.index-members-variable.is))
    in
    let here : found.items ≡ writers_of infos x = c.in_ok-found.ensures ∙ ap (filter (λ c. is_writing (slice_get infos c))) is in
    let now : c.push.new.self.items ≡ old ++ found ∷ [] = c.in_ok-push.ensures.items in
    record {
      len = omega (arith, ap length now, length-append old (found ∷ []), length-cons found [], c.loop-variable.invariant.len);
      lists = λ k w at.
          push_tells (λ n (u : Vec ℕ Global). u.items ≡ writers_of infos n) old found c.loop-variable.invariant.lists (here ∙ ap (writers_of infos) (sym c.loop-variable.invariant.len)) k w (ap (λ xs. slice_get xs k) (sym now) ∙ at);
    }
