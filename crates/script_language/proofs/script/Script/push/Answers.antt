use Rattle.std.proofs.Common.{◌∷◌, ◌++◌, [], ◌∙◌, ap, sym, subst, map, All, rules}
use Rattle.std.proofs.lemmas.List.Elements.{All-push}
use Rattle.script_language.specs.Kept.{asked_of, IsKept}
use Rattle.script_language.proofs.KeptLemmas.{are-grown, calls-pushed}
use Rattle.script_language.proofs.script.Script.push.Goals as goal

pub invariant_of-self : goal.invariant_of-self
invariant_of-self c = are-grown _ _ _ _ _ c.keep.ensures.names c.keep.ensures.owned c.self.invariant

pub invariant_of-self-in_err-push : goal.invariant_of-self-in_err-push
invariant_of-self-in_err-push c =
    let kept = are-grown _ _ _ _ _ c.keep.ensures.names c.keep.ensures.owned c.self.invariant in
    subst (All (IsKept c.keep.new.names.items c.keep.new.owned.items)) (search rules) kept

pub invariant_of-self-2 : goal.invariant_of-self-2
invariant_of-self-2 c =
    let kept = are-grown _ _ _ _ _ c.keep.ensures.names c.keep.ensures.owned c.self.invariant in
    subst (All (IsKept c.keep.new.names.items c.keep.new.owned.items)) (sym c.in_ok-push.ensures.items) (All-push (IsKept c.keep.new.names.items c.keep.new.owned.items) c.self.inside.kept.items c.in_ok-kept.kept kept c.in_ok-kept.ensures.kept)

pub returns : goal.returns
returns c =
    let names = c.keep.new.names.items in
    let owned = c.keep.new.owned.items in
    ap (λ kept. map (asked_of names owned) kept) c.in_ok-push.ensures.items
    ∙ calls-pushed _ _ _ _ c.self.inside.kept.items c.in_ok-kept.kept _ c.keep.ensures.names c.keep.ensures.owned c.self.invariant c.in_ok-kept.ensures.asked
    ∙ ap (λ s. s ++ record { line = c.args.line; client = c.args.client; call = c.args.call } ∷ []) c.self.view_is
