use Rattle.std.proofs.Common.{sym, true≢false}
use Rattle.shb_clocks.proofs.rivals.Rivals.narrowed.Goals as goal

pub returns-else-is_apart : goal.returns-else-is_apart
returns-else-is_apart c =
    record { events = tt; clear = λ a later clear. rw c.in-One.is (λ apart. true≢false (sym (c.if-is_apart.ensures.1 (rw c.requires.trace (later c.in-One.first apart))))) }
