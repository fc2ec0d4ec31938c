use Rattle.std.proofs.Common.{◌+◌, take}
use Rattle.moves.specs.Commands.{touches, touches_any}
use Rattle.dependence.specs.Lists.{under}
use Rattle.dependence.proofs.ManyLemmas.{touches_next, removed_next, gone_next}
use Rattle.dependence.proofs.touches.Touches.remove_all.Goals as goal

pub loop-command-preserved : goal.loop-command-preserved
loop-command-preserved c =
    let k = c.args.entry in
    let D = c.args.commands.now in
    let i = c.loop-command.command-index in
    let d = c.command-item.result in
    let inv = c.loop-command.invariant in (
      λ x. removed_next (touches_any (take i D) x) (touches d x) (touches_any (take (i + 1) D) x) k (under c.args.self.now x) (under c.loop-command.self x) (under c.remove.new.self x)
          (inv.1 x) (touches_next D i d x c.loop-command-test.true c.command-item.is) (inv.0 x) (c.remove.ensures.removed x),
      λ x. gone_next (touches_any (take i D) x) (touches d x) (touches_any (take (i + 1) D) x) k (under c.loop-command.self x) (under c.remove.new.self x)
          (inv.1 x) (c.remove.ensures.gone x) (touches_next D i d x c.loop-command-test.true c.command-item.is) (c.remove.ensures.removed x),
    )
