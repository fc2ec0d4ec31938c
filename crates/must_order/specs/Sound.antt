-- What holds for the fields of each `Must`. No public clause cites this module.
use Rattle.std.specs.Prelude.{◌≡◌, length}
use Rattle.rapid_text.specs.Recording.{IsWellFormed}
use Rattle.trace_rules.specs.Rules.{IsDisciplined}
use Rattle.shb_clocks.specs.Layout.{AreThreads}
use Rattle.shb_clocks.specs.SharedRows.{len_of}
use Rattle.must_order.specs.declared.must.Must.TheInside.{Inside}
use Rattle.must_order.specs.Joins.{AreJoins}
use Rattle.must_order.specs.Layout.{AreCounts}
use Rattle.must_order.specs.Sections.{AreSections}

-- what holds for these fields
pub record IsSound (s : Inside) : Type 0 where
  pub well_formed : IsWellFormed s.trace.value
  pub disciplined : IsDisciplined s.trace.value.events
  pub threads : AreThreads s.trace.value.events (length s.trace.value.events) s.threads.items
  pub width : s.counts.width ≡ length s.trace.value.threads
  pub len : len_of s.counts ≡ length s.trace.value.events
  pub counts : AreCounts s.trace.value.events (length s.trace.value.threads) s.counts
  pub joins : AreJoins s.trace.value.events (length s.trace.value.events) s.joins.list.items s.joins.starts.items
  pub sections : AreSections s.trace.value (length s.trace.value.events) s.sections
