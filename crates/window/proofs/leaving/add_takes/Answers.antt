use Rattle.std.proofs.Common.{◌≡◌, ◌++◌, replicate, ap, ◌∙◌, arith}
use Rattle.rapid_text.specs.declared.event.Op.TheVariants.{Acquire}
use Rattle.window.specs.Made.{does}
use Rattle.window.proofs.GrowthLemmas.{goes_on}
use Rattle.window.proofs.PrologueLemmas.{replicate_more}
use Rattle.window.proofs.leaving.add_takes.Goals as goal

pub loop-taken-preserved : goal.loop-taken-preserved
loop-taken-preserved c = goes_on c.args.events.now.items _ _ _ _ _ c.in_ok-push.ensures.items c.loop-taken.invariant (replicate_more _ _)

pub returns : goal.returns
returns c =
    let all : c.loop-taken._taken ≡ c.args.held.depth = omega (arith, c.loop-taken-test.false, c.loop-taken.auto) in
    c.loop-taken.invariant ∙ ap (λ n. c.args.events.now.items ++ replicate n (does c.args.held.thread (Acquire c.args.lock))) all
