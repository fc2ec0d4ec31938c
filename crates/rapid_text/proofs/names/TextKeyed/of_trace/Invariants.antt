-- Each line takes at least a byte off what is left.
use Rattle.std.proofs.Common.{length}
use Rattle.rapid_text.proofs.names.TextKeyed.of_trace.Given as goal

abbrev pub decreases-loop-left : goal.decreases-loop-left
decreases-loop-left l = length l.left
