-- Lemmas for the crates above: what must-before tells, from its definitions alone.
-- must-before goes on from event to event, along a thread and from its fork, and never leads back in the trace
pub use Rattle.must_order.proofs.OrderLemmas.{IsMustBefore-trans, IsMustBefore-le, along_thread, from_fork, Link-earlier, EndsFirst-earlier, section-closed}
-- what is must-before an event of a correct reordering is in it, before the event; so is what a link or the rule of
-- sections leads from
pub use Rattle.must_order.proofs.MustLemmas.{IsMustBefore-in, Link-in, EndsFirst-in, IsReached, reached, must_law, one_holder_in, open_in}
-- an event that is ready: its base is in the list, and its thread holds what it holds in the trace
pub use Rattle.must_order.proofs.ReadyLemmas.{IsReady-allowed, base_of-ready, hold_count-ready}
-- where a thread stands in a list
pub use Rattle.must_order.proofs.CountLemmas.{StandsAt, stands_at, member_before, before_member, hold_count-next, hold_count-between}
-- who holds a lock since when
pub use Rattle.must_order.proofs.TimelineLemmas.{IsOuter, IsHeldSince, held_since, last_outer-since, section-since}
-- a section is open up to its end, which is a release of its thread and lock
pub use Rattle.must_order.proofs.SectionLemmas.{section-open, section_end-is}
