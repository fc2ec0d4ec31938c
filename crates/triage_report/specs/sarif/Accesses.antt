-- What a result says of an access: its thread, what that does, the variable and the location. All notions here are this
-- project's own.
use Rattle.std.specs.Prelude.{ℕ, List}
use Rattle.rapid_text.specs.Recording.{Recording}
use Rattle.triage_report.specs.lines.Accesses.{thread_at, variable_at, verb_at}
use Rattle.explain_report.specs.places.Located.{location_at}
use Rattle.triage_report.specs.declared.sarif.accesses.Access.{Access}

pub record Told : Type 0 where
  pub thread : List ℕ
  pub verb : List ℕ
  pub variable : List ℕ
  pub location : List ℕ

-- the access, as values
abbrev pub access_told : Access → Told
access_told a = record {
  thread = a.thread.now;
  verb = a.verb.now;
  variable = a.variable.now;
  location = a.location.now;
}

-- access e of the trace with recording `r`
abbrev pub told_at : Recording → ℕ → Told
told_at r e = record {
  thread = thread_at r e;
  verb = verb_at r e;
  variable = variable_at r e;
  location = location_at r e;
}
