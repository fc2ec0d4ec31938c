use Rattle.std.proofs.Common.{◌≡◌, ℕ, ◌<◌, None}
use Rattle.trace_rules.specs.Rules.{breach_at}
use Rattle.trace_rules.specs.Tables.{IsStateOf}
use Rattle.trace_rules.proofs.check_rules.check.Given as goal

-- the tables are those of the events so far, and none of these breaks a rule
abbrev pub invariant-loop-event : goal.invariant-loop-event
invariant-loop-event l = record {
  tables : IsStateOf l.raw l.event l.state;
  kept : (j : ℕ) → j < l.event → breach_at l.raw.events j ≡ None;
}
