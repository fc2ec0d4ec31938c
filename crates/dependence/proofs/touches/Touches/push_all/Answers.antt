use Rattle.std.proofs.Common.{◌+◌, take}
use Rattle.moves.specs.Commands.{touches, touches_any}
use Rattle.dependence.specs.Lists.{under}
use Rattle.dependence.proofs.ManyLemmas.{touches_next, placed_next, placed_out}
use Rattle.dependence.proofs.NumberLemmas.{reached_pushed}
use Rattle.dependence.proofs.touches.Touches.push_all.Goals as goal

pub place-requires : goal.place-requires
place-requires c x =
    reached_pushed (touches_any (take c.loop-command.command-index c.args.commands.now) x) c.args.entry (under c.loop-command.self x) (under c.args.self.now x) (c.requires x) (c.loop-command.invariant x)

pub returns-in_default-clause-err : goal.returns-in_default-clause-err
returns-in_default-clause-err c x =
    let k = c.args.entry in
    let D = c.args.commands.now in
    let i = c.loop-command.command-index in
    let d = c.command-item.result in
    let inv = c.loop-command.invariant in
    placed_out D i d x k (under c.args.self.now x) (under c.loop-command.self x) (under c.place.new.self x) (under c.remove_all.new.self x)
    c.loop-command-test.true c.command-item.is (c.requires x) (inv x) (c.in_default.ensures.err x) (c.remove_all.ensures x)

pub loop-command-preserved : goal.loop-command-preserved
loop-command-preserved c x =
    let k = c.args.entry in
    let D = c.args.commands.now in
    let i = c.loop-command.command-index in
    let d = c.command-item.result in
    let inv = c.loop-command.invariant in
    placed_next (touches_any (take i D) x) (touches d x) (touches_any (take (i + 1) D) x) k (under c.args.self.now x) (under c.loop-command.self x) (under c.place.new.self x)
    (c.requires x) (touches_next D i d x c.loop-command-test.true c.command-item.is) (inv x) (c.in-Ok.ensures.ok x)
