use Rattle.std.proofs.Common.{◌≡◌, ◌*◌, cond, nat_lt, replicate, ◌++◌, ap, ◌∙◌, arith}
use Rattle.std.proofs.lemmas.Bool.{lt-ltb, le-ltb}
use Rattle.window.proofs.GrowthLemmas.{goes_on}
use Rattle.window.proofs.PrologueLemmas.{replicate_more}
use Rattle.window.proofs.prologue.add_holds.Goals.{then-most-depth, else-most-depth}
use Rattle.window.proofs.prologue.add_holds.Goals as goal

pub loop-taken-preserved : goal.loop-taken-preserved
loop-taken-preserved c = goes_on c.args.holds.now.items _ _ _ _ _ c.in_ok-push.ensures.items c.loop-taken.invariant (replicate_more _ _)

pub returns : goal.returns
returns c =
    let j = c.args.touches in
    let d = c.args.held.depth in
    let count : c.if-most-depth.count ≡ cond (nat_lt (2 * j) d) (2 * j) d =
    elim c.if-most-depth.branch [
      | then-most-depth w ↦
          let yes : cond (nat_lt (2 * j) d) (2 * j) d ≡ 2 * j = ap (λ b. cond b (2 * j) d) (lt-ltb (2 * j) d (omega (arith, w.if-most-depth.true, c.from-most.ensures, c.from-depth.ensures))) in
          omega (arith, w.count-is, c.from-most.ensures, yes)
      | else-most-depth w ↦
          let no : cond (nat_lt (2 * j) d) (2 * j) d ≡ d = ap (λ b. cond b (2 * j) d) (le-ltb (2 * j) d (omega (arith, w.if-most-depth.false, c.from-most.ensures, c.from-depth.ensures))) in
          omega (arith, w.count-is, c.from-depth.ensures, no)
    ] in
    let all : c.loop-taken._taken ≡ c.if-most-depth.count = omega (arith, c.loop-taken-test.false, c.loop-taken.auto) in
    c.loop-taken.invariant ∙ ap (λ n. c.args.holds.now.items ++ replicate n (c.args.held.thread, c.args.lock)) (all ∙ count)
