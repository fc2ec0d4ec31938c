use Rattle.std.proofs.Common.{◌≡◌}
use Rattle.std.specs.Arc.{arc_value}
use Rattle.crossbeam_channel.specs.Ends.{sends_on, receives_on}
use Rattle.search_pool.specs.Desks.{IsManned}
use Rattle.search_pool.proofs.worker.hire_all.Given as goal

-- the own desk is manned, at the channels that it began at
abbrev pub invariant-loop-gate : goal.invariant-loop-gate
invariant-loop-gate g l =
    record {
      more : (goal.iterator-loop-gate g).can_next l.gate-iterator;
      finite : (goal.iterator-loop-gate g).is_finite l.gate-iterator;
      requests : receives_on l.own.requests ≡ sends_on l.sender;
      answers : sends_on l.own.answers ≡ sends_on l.fn.own.answers;
      trace : arc_value l.own.indexed ≡ arc_value l.fn.own.indexed;
      manned : IsManned l.own;
    }
