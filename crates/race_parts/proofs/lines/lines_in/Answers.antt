use Rattle.std.proofs.Common.{[], ◌∷◌, ◌++◌, List, ap, ◌∙◌}
use Rattle.serde_json.specs.declared.value.Value.{Value}
use Rattle.race_parts.proofs.LineLemmas.{values_begin, values_go_on}
use Rattle.race_parts.proofs.lines.lines_in.Goals as goal

pub lines-init : goal.lines-init
lines-init c =
    let one = c.in_ok-keep.ensures.ok ∙ ap (λ (vs : List Value). vs ++ c.args.begun.head ∷ []) c.new-found.ensures.items in
    (values_begin c.args.text.now c.args.begun.rest.now c.args.begun.head c.keep.new.found.items c.requires one, ([], one))

pub lines-preserved : goal.lines-preserved
lines-preserved c = (
  values_go_on c.args.text.now c.lines.rest.now c.in_ok-value.behind.now c.lines.found.items c.keep-in-lines.new.found.items c.in_ok-value.value c.lines.invariant.0 c.in_ok-value.ensures.ok
      c.in_ok-keep-2.ensures.ok,
  (c.lines.invariant.1.0 ++ c.in_ok-value.value ∷ [], c.in_ok-keep-2.ensures.ok ∙ ap (λ (vs : List Value). vs ++ c.in_ok-value.value ∷ []) c.lines.invariant.1.1),
)
