use Rattle.std.proofs.Common.{◌≤◌, ◌∷◌, ◌++◌, [], ◌∙◌, All, map, sym, ap, subst, arith}
use Rattle.std.proofs.lemmas.List.Elements.{All-push}
use Rattle.event_index.specs.Lookups.{before}
use Rattle.variable_uses.specs.Rows.{key_at}
use Rattle.variable_uses.proofs.NumberLemmas.{map_more_before}
use Rattle.variable_uses.proofs.keys.keys_of.Goals as goal

pub loop-event-preserved : goal.loop-event-preserved
loop-event-preserved c = record {
  keys =
      c.in_ok-push.ensures.items ∙ ap (λ xs. xs ++ c.key_at.result ∷ []) c.loop-event.invariant.keys
      ∙ ap (λ k. map (key_at c.args.indexed.now.events c.args.places.now c.args.chosen.now) (before c.loop-event.event) ++ k ∷ []) c.key_at.ensures.key
      ∙ sym (map_more_before (key_at c.args.indexed.now.events c.args.places.now c.args.chosen.now) c.loop-event.event);
  len = omega (arith, c.loop-event.invariant.len, c.in_ok-push.ensures.len);
  most = subst (All (λ k. k ≤ 2097152)) (sym c.in_ok-push.ensures.items) (All-push (λ k. k ≤ 2097152) c.loop-event.keys.items c.key_at.result c.loop-event.invariant.most c.key_at.ensures.most);
}
