use Rattle.std.proofs.Common.{◌≡◌, ◌+◌, List, ℕ, [], ◌++◌, append_assoc, append-nil, sym, ap, ◌∙◌, subst, arith}
use Rattle.std.proofs.lemmas.List.{nil_from_length}
use Rattle.must_order.specs.declared.chains.Step.{Step}
use Rattle.explain_report.specs.Causes.{IsWaiting, caused_text, deeper, waits, waits_for}
use Rattle.explain_report.proofs.CauseLemmas.{GoesOn, goes_on-end, goes_on-next, waiting-for, waiting-taken}
use Rattle.explain_report.proofs.causes.append_causes.Goals as goal

pub loop-chain-init : goal.loop-chain-init
loop-chain-init c = (([], sym (append-nil _), λ rest is. is), c.requires)

pub chain_at-chain-requires : goal.chain_at-chain-requires
chain_at-chain-requires c =
    let cs = c.args.chains.now in
    let told = c.loop-chain.waiting.told.items in
    let left = c.pop.new.self.items in
    let before = subst (λ (ls : List (ℕ × ℕ)). IsWaiting cs c.loop-chain._chain (told, ls)) c.in-Some.ensures.items c.loop-chain.invariant.1 in
    (waiting-taken cs c.loop-chain._chain told left c.in-Some.at c.in-Some.depth before).0

pub add_causes-requires : goal.add_causes-requires
add_causes-requires c = c.loop-chain.invariant.1.told

pub loop-chain-preserved : goal.loop-chain-preserved
loop-chain-preserved c =
    let r = c.args.analysis.now in
    let cs = c.args.chains.now in
    let n = c.loop-chain._chain in
    let at = c.in-Some.at in
    let depth = c.in-Some.depth in
    let chain = c.chain_at-chain.result.now in
    let told = c.loop-chain.waiting.told.items in
    let left = c.pop.new.self.items in
    let so = c.loop-chain.invariant in
    let first = waits c.args.waiting.now in
    let text = so.0.0 in
    let before = subst (λ (ls : List (ℕ × ℕ)). IsWaiting cs n (told, ls)) c.in-Some.ensures.items so.1 in
    let goes = subst (λ (ls : List (ℕ × ℕ)). GoesOn r cs first (told, ls) text) c.in-Some.ensures.items so.0.2 in
    let next : waits c.add_causes.new.waiting ≡ waits_for cs (deeper depth) chain.steps.items (told, left) =
    c.in_ok-add_causes.ensures ∙ ap (λ (d : ℕ). waits_for cs d c.as_slice.result.now (told, left)) c.saturating_add.ensures
    ∙ ap (λ (ss : List Step). waits_for cs (deeper depth) ss (told, left)) c.as_slice.ensures.value in (
      (
        text ++ caused_text r depth chain,
        c.in_ok-append_caused.ensures ∙ ap (λ (t : List ℕ). t ++ caused_text r depth chain) so.0.1 ∙ append_assoc _ text (caused_text r depth chain),
        goes_on-next r cs first _ told left text at depth chain goes c.chain_at-chain.ensures next,
      ),
      subst (IsWaiting cs (n + 1)) (sym next)
          (waiting-for cs (deeper depth) (n + 1) chain.steps.items (told, left) (waiting-taken cs n told left at depth before).1),
    )

pub returns-in_default : goal.returns-in_default
returns-in_default c =
    let w = c.loop-chain.waiting in
    let so = c.loop-chain.invariant.0 in
    let none = nil_from_length w.left.items (sym w.left.ok.0 ∙ c.in_default.ensures.cases.0) in
    (so.0, so.1, goes_on-end c.args.analysis.now c.args.chains.now (waits c.args.waiting.now) w.told.items w.left.items so.0 none so.2)

pub returns : goal.returns
returns c =
    let w = c.loop-chain.waiting in
    let so = c.loop-chain.invariant.0 in
    let none = nil_from_length w.left.items (omega (arith, c.loop-chain-test.false, c.loop-chain.invariant.1.few)) in
    (so.0, so.1, goes_on-end c.args.analysis.now c.args.chains.now (waits c.args.waiting.now) w.told.items w.left.items so.0 none so.2)
