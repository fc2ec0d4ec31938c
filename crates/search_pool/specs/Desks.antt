-- What holds for a worker's desk. No public clause cites this module.
use Rattle.std.specs.Prelude.{◌≡◌}
use Rattle.std.specs.Arc.{arc_value}
use Rattle.crossbeam_channel.specs.Claims.{IsSeatAt}
use Rattle.crossbeam_channel.specs.Ends.{sends_on, receives_on}
use Rattle.search_pool.specs.Passes.{IsOfTrace}
use Rattle.search_pool.specs.declared.worker.Desk.{Desk}

-- the clocks are of the trace, the passes are of the two channels, and the pass of the answers knows the trace
pub record IsManned (d : Desk) : Type 0 where
  pub trace : arc_value d.clocks ≡ arc_value d.indexed
  pub requests : IsSeatAt (receives_on d.requests) d.request_pass
  pub answers : IsSeatAt (sends_on d.answers) d.answer_pass
  pub knows : IsOfTrace (arc_value d.indexed) d.answer_pass
