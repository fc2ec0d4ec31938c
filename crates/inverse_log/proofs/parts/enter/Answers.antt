use Rattle.std.proofs.Common.{refl}
use Rattle.moves.specs.Commands.{touches_any}
use Rattle.dependence.specs.Lists.{under}
use Rattle.dependence.proofs.CallerLemmas.{back_out}
use Rattle.inverse_log.proofs.parts.enter.Goals as goal

pub returns-in_default-push-clause-err : goal.returns-in_default-push-clause-err
returns-in_default-push-clause-err c = (
  λ x. back_out (touches_any c.args.commands.now x) c.args.entry (under c.args.touches.now x) (under c.push_all.new.self x) (under c.push_all.new.self x) (under c.remove_all.new.self x) (c.requires.names x) (c.in-Ok.ensures.ok x) refl (c.remove_all.ensures x),
  c.in_default-push.ensures.err,
)
