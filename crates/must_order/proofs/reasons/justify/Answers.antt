use Rattle.std.proofs.Common.{◌≡◌, List, Some, true, length, refl, sym, ◌∙◌, subst, inr, arith, true≢false}
use Rattle.std.specs.List.{slice_get}
use Rattle.std.proofs.lemmas.Option.{slice_get_read, same_Some}
use Rattle.must_order.specs.Joins.{AreTold}
use Rattle.must_order.specs.declared.chains.Chain.{Chain}
use Rattle.must_order.proofs.ReasonLemmas.{AreTold-push, AreTold-skip, acquire_within, event_within}
use Rattle.must_order.proofs.reasons.justify.Goals as goal

pub returns-then-not-index-clause-told : goal.returns-then-not-index-clause-told
returns-then-not-index-clause-told c =
    let marks = c.args.needed.now.items in
    let read : slice_get marks c.args.at ≡ Some c.index.result.now = slice_get_read marks (length marks) c.args.at c.index.result.now refl (omega (arith, c.requires.at, c.requires.told.marks)) c.index.ensures in
    AreTold-skip c.args.indexed.now.events c.args.joins.now.list.items marks c.args.at c.args.chains.now.items
    (λ is. true≢false (same_Some true c.index.result.now (sym is ∙ read) ∙ c.if-not-index.true)) c.requires.told

pub chain_of-requires-clause-first : goal.chain_of-requires-clause-first
chain_of-requires-clause-first c =
    let js = c.args.joins.now.list.items in
    let j = c.index-join.result.now in
    let at : slice_get js c.args.at ≡ Some j = slice_get_read js (length js) c.args.at j refl c.requires.at c.index-join.ensures in
    acquire_within c.args.indexed.now.events j.acquire j.release j.event (c.requires.known.joins c.args.at j at).ends

pub chain_of-requires-clause-last : goal.chain_of-requires-clause-last
chain_of-requires-clause-last c =
    let js = c.args.joins.now.list.items in
    let j = c.index-join.result.now in
    let at : slice_get js c.args.at ≡ Some j = slice_get_read js (length js) c.args.at j refl c.requires.at c.index-join.ensures in
    event_within c.args.indexed.now.events j.acquire j.release j.event (c.requires.known.joins c.args.at j at).ends

pub chain_of-requires-clause-low : goal.chain_of-requires-clause-low
chain_of-requires-clause-low c =
    let js = c.args.joins.now.list.items in
    let j = c.index-join.result.now in
    let at : slice_get js c.args.at ≡ Some j = slice_get_read js (length js) c.args.at j refl c.requires.at c.index-join.ensures in
    (c.requires.known.joins c.args.at j at).low

pub chain_of-requires-clause-led : goal.chain_of-requires-clause-led
chain_of-requires-clause-led c =
    let js = c.args.joins.now.list.items in
    let j = c.index-join.result.now in
    let at : slice_get js c.args.at ≡ Some j = slice_get_read js (length js) c.args.at j refl c.requires.at c.index-join.ensures in
    inr (c.requires.known.joins c.args.at j at).led

pub returns-clause-told : goal.returns-clause-told
returns-clause-told c =
    let js = c.args.joins.now.list.items in
    let j = c.index-join.result.now in
    let at : slice_get js c.args.at ≡ Some j = slice_get_read js (length js) c.args.at j refl c.requires.at c.index-join.ensures in
    let T = c.args.indexed.now.events in
    let marks = c.chain_of.new.needed.items in
    subst (λ (cs : List Chain). AreTold T js marks c.args.at cs) (sym c.in_ok-push.ensures.items)
    (AreTold-push T js c.args.needed.now.items marks c.args.at c.args.chains.now.items c.in_ok-chain.chain j at
    c.in_ok-chain.ensures.ends.0 c.in_ok-chain.ensures.ends.1 c.in_ok-chain.ensures.chain c.in_ok-chain.ensures.marks c.in_ok-chain.ensures.sections c.requires.told)
