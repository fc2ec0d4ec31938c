use Rattle.std.proofs.Common.{refl}
use Rattle.lock_waits.proofs.showing.is_hold.Goals as goal

pub returns-in-LockHeld : goal.returns-in-LockHeld
returns-in-LockHeld c = (λ _. (c.in-LockHeld.thread, c.in-LockHeld.is), λ _. refl)
