use Rattle.std.proofs.Common.{◌≡◌, ℕ, List, [], ◌∷◌, ◌++◌, length, sym, ap, ◌∙◌, subst, arith}
use Rattle.std.specs.List.{slice_get}
use Rattle.must_order.specs.Joins.{AreTold}
use Rattle.must_order.specs.declared.chains.Chain.{Chain}
use Rattle.must_order.proofs.ReasonLemmas.{AreTold-first, AreReasons-told}
use Rattle.must_order.proofs.reasons.add_marked.Goals as goal

pub loop-done-init : goal.loop-done-init
loop-done-init c =
    let T = c.args.indexed.now.events in
    let js = c.args.joins.now.list.items in
    let marks = c.chain_of.new.needed.items in
    let chain = c.in_ok-chain.chain in
    let limit = c.index-limit.result.now in
    let grown : c.push.new.self.items ≡ chain ∷ [] = c.in_ok-push.ensures.items ∙ ap (λ (cs : List Chain). cs ++ chain ∷ []) c.requires.empty in
    let size : length marks ≡ length js = c.in_ok-chain.ensures.marks.len ∙ c.requires.marks in
    let told : AreTold T js marks limit (chain ∷ []) = AreTold-first T js marks limit chain c.in_ok-chain.ensures.chain size c.in_ok-chain.ensures.sections in
    record {
      told = subst (λ (n : ℕ). AreTold T js marks n c.push.new.self.items) (omega arith) (subst (AreTold T js marks limit) (sym grown) told);
      first = (chain, ap (λ (cs : List Chain). slice_get cs 0) grown, c.in_ok-chain.ensures.ends.0, c.in_ok-chain.ensures.ends.1);
    }

pub loop-done-preserved : goal.loop-done-preserved
loop-done-preserved c =
    let first = c.loop-done.invariant.first in
    record {
      told = subst (λ (n : ℕ). AreTold c.args.indexed.now.events c.args.joins.now.list.items c.justify.new.needed.items n c.justify.new.chains.items) (omega arith) c.in_ok-justify.ensures.told;
      first = (first.0, c.in_ok-justify.ensures.begins ∙ first.1, first.2, first.3);
    }

pub returns : goal.returns
returns c =
    let T = c.args.indexed.now.events in
    let js = c.args.joins.now.list.items in
    let first = c.loop-done.invariant.first in
    let marks = c.loop-done.needed.items in
    let cs = c.loop-done.chains.items in
    AreReasons-told T js marks c.args.first c.args.last cs first.0
    (subst (λ (n : ℕ). AreTold T js marks n cs) (omega (arith, c.loop-done-test.false)) c.loop-done.invariant.told) first.1 first.2 first.3
