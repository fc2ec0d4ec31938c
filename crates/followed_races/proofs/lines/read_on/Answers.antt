use Rattle.std.proofs.Common.{IfSome, subst}
use Rattle.followed_races.specs.Lines.{Tells}
use Rattle.followed_races.proofs.lines.read_on.Goals as goal

pub returns-clause-ok : goal.returns-clause-ok
returns-clause-ok c = record {
  bytes = c.in-Some.line.now;
  entry = c.in-Some-2.entry;
  cut = c.in-Some.ensures.some.0;
  one = c.in-Some.ensures.some.1;
  tells = subst (λ o. IfSome o (Tells c.in-Some.line.now)) c.in-Some-2.is c.in_ok-entry.ensures.some;
  more = c.in_ok-keep.ensures.ok;
}
