-- What is left are the frames of the calls that are left.
use Rattle.std.proofs.Common.{◌≡◌, ◌-◌, ◌++◌, map}
use Rattle.std.specs.Option.{option_map}
use Rattle.serde_json.specs.View.{view}
use Rattle.explain_report.specs.places.Places.{calls_in}
use Rattle.explain_report.specs.declared.places.arrows.TheConstants.{MAX_CALLS}
use Rattle.triage_report.specs.sarif.Stacks.{call_frame}
use Rattle.triage_report.proofs.sarif.stacks.push_calls.Given as goal

abbrev pub invariant-loop-done : goal.invariant-loop-done
invariant-loop-done l =
    map view l.list.items ++ map (call_frame l.root) (calls_in (MAX_CALLS - l.done) (option_map (λ t. t.now) l.rest))
    ≡ map view l.fn.list.items ++ map (call_frame l.root) (calls_in MAX_CALLS (option_map (λ t. t.now) l.calls))
