use Rattle.std.proofs.Common.{◌≡◌, ◌+◌, ◌++◌, ◌∷◌, [], ℕ, List, length, sym, ap, ◌∙◌, subst, arith}
use Rattle.must_order.specs.Joins.{AreJoins}
use Rattle.must_order.proofs.JoinLemmas.{AreJoins-end}
use Rattle.must_order.proofs.joins.Joins.end.Goals as goal

pub returns : goal.returns
returns c =
    let js = c.args.self.now.list.items in
    let starts = c.args.self.now.starts.items in
    let grown : c.push.new.self.items ≡ starts ++ length js ∷ [] = c.in_ok-push.ensures.items ∙ ap (λ n. starts ++ n ∷ []) (omega (arith, c.len.ensures, c.args.self.now.list.ok.0)) in
    subst (λ (ss : List ℕ). AreJoins c.args.indexed.now.events (c.args.event + 1) js ss) (sym grown)
    (AreJoins-end c.args.indexed.now.events c.args.event js starts c.requires.known c.requires.led)
