use Rattle.std.proofs.Common.{length}
use Rattle.client_scripts.proofs.JointLemmas.{IsPassed}
use Rattle.client_scripts.proofs.joint.parts_of.Given as goal

-- no line so far is a divider
abbrev pub invariant-loop-line : goal.invariant-loop-line
invariant-loop-line l = IsPassed l.text l.lines l.at

abbrev pub decreases-loop-line : goal.decreases-loop-line
decreases-loop-line l = length l.lines
