-- The variable and threads of the pairs of a lane's events with a later one. No public clause cites this module.
use Rattle.race_groups.specs.declared.least_pairs.tries.Between.{Between}
use Rattle.race_groups.specs.declared.least_pairs.lanes.Lane.{Lane}
use Rattle.race_groups.specs.declared.least_pairs.lanes.Later.{Later}
use Rattle.race_groups.specs.declared.least_pairs.windows.Window.{Window}

abbrev pub of_lane : Lane → Later → Between
of_lane l later = record { variable = later.variable; earlier = l.thread; later = later.thread }

abbrev pub of_window : Window → Between
of_window w = of_lane w.lane.now w.later
