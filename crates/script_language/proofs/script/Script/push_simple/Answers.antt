use Rattle.std.proofs.Common.{◌∷◌, ◌++◌, [], ◌∙◌, ap, sym, subst, map, All, rules, append-nil, get_or}
use Rattle.std.proofs.lemmas.List.Elements.{All-push}
use Rattle.inverse_log.specs.declared.call.Call.TheVariants.{Undo}
use Rattle.script_language.specs.Kept.{asked_of, IsKept}
use Rattle.script_language.specs.Simple.{simple_call}
use Rattle.script_language.proofs.KeptLemmas.{are-grown, calls-pushed}
use Rattle.script_language.proofs.script.Script.push_simple.Goals as goal

pub invariant_of-self : goal.invariant_of-self
invariant_of-self c =
    let owned = c.self.inside.owned.items in
    are-grown _ _ _ _ _ c.keep_simple.ensures.names ([], sym (append-nil owned)) c.self.invariant

pub invariant_of-self-in_err-push : goal.invariant_of-self-in_err-push
invariant_of-self-in_err-push c =
    let owned = c.self.inside.owned.items in
    let kept = are-grown _ _ _ _ _ c.keep_simple.ensures.names ([], sym (append-nil owned)) c.self.invariant in
    subst (All (IsKept c.keep_simple.new.names.items owned)) (search rules) kept

pub invariant_of-self-2 : goal.invariant_of-self-2
invariant_of-self-2 c =
    let names = c.keep_simple.new.names.items in
    let owned = c.self.inside.owned.items in
    let kept = are-grown _ _ _ _ _ c.keep_simple.ensures.names ([], sym (append-nil owned)) c.self.invariant in
    subst (All (IsKept names owned)) (sym c.in_ok-push.ensures.items) (All-push (IsKept names owned) c.self.inside.kept.items c.in_ok-kept.kept kept (c.in_ok-kept.ensures.kept owned))

pub returns : goal.returns
returns c =
    let names = c.keep_simple.new.names.items in
    let owned = c.self.inside.owned.items in
    let own = get_or owned c.in_ok-kept.kept.at Undo in (
      own,
      ap (λ kept. map (asked_of names owned) kept) c.in_ok-push.ensures.items
          ∙ calls-pushed _ _ _ _ c.self.inside.kept.items c.in_ok-kept.kept _ c.keep_simple.ensures.names ([], sym (append-nil owned)) c.self.invariant (c.in_ok-kept.ensures.asked owned)
          ∙ ap (λ s. s ++ record { line = c.args.line; client = c.args.client; call = simple_call c.args.simple.now own } ∷ []) c.self.view_is,
    )
