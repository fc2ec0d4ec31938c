-- What is left are the lines of the calls that are left.
use Rattle.std.proofs.Common.{◌≡◌, ◌-◌, ◌++◌}
use Rattle.std.specs.Option.{option_map}
use Rattle.explain_report.specs.places.Places.{behind_arrow, calls_in}
use Rattle.explain_report.specs.declared.places.arrows.TheConstants.{MAX_CALLS}
use Rattle.triage_report.specs.lines.Lines.{call_lines}
use Rattle.triage_report.proofs.lines.calls.append_calls.Given as goal

abbrev pub invariant-loop-done : goal.invariant-loop-done
invariant-loop-done l =
    l.out.items ++ call_lines l.folder l.place (calls_in (MAX_CALLS - l.done) (option_map (λ t. t.now) l.rest))
    ≡ l.fn.out.items ++ call_lines l.folder l.place (calls_in MAX_CALLS (behind_arrow l.location))
