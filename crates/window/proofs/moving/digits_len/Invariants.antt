use Rattle.std.proofs.Common.{length, ◌-◌, ◌≤◌, take}
use Rattle.std.specs.Str.Parse.{AllDigits}
use Rattle.window.proofs.moving.digits_len.Given as goal

abbrev pub invariant-digits : goal.invariant-digits
invariant-digits l = (l.len ≤ length l.text) × AllDigits 10 (take l.len l.text)

abbrev pub decreases-digits : goal.decreases-digits
decreases-digits l = length l.text - l.len
