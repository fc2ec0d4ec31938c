use Rattle.std.proofs.Common.{◌≡◌, ◌+◌, min, take}
use Rattle.script_language.specs.Limits.{number_limit}
use Rattle.script_language.specs.LineWords.{value_of}
use Rattle.script_language.proofs.number.bounded_value.Given as goal

-- the value of the digits so far, where it is not too great
abbrev pub invariant-loop-digit : goal.invariant-loop-digit
invariant-loop-digit l = l.value ≡ min (value_of (take l.digit-index l.digits)) (number_limit + 1)
