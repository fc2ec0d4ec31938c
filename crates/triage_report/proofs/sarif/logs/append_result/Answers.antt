use Rattle.std.proofs.Common.{◌++◌, ℕ, List, Vec, option_map, refl, ap, ◌∙◌}
use Rattle.std.specs.Prelude.{nat_lt}
use Rattle.std.specs.declared.alloc.Global.{Global}
use Rattle.rapid_text.specs.Recording.{Recording}
use Rattle.triage_report.specs.sarif.Logs.{item_text}
use Rattle.triage_report.specs.sarif.Results.{result_object}
use Rattle.triage_report.proofs.sarif.logs.append_result.Goals as goal

pub returns : goal.returns
returns c =
    let steps = option_map (λ (t : Vec ℕ Global). t.items) c.in_ok-steps.steps in (
      result_object c.args.analysis.now c.args.sources c.args.verdict.now steps,
      (c.in_ok-steps.steps, c.in_ok-steps.ensures, refl),
      c.in_ok-append_shown.ensures
          ∙ ap (λ (r : Recording). c.args.out.now.items ++ item_text (nat_lt 0 c.args.at) (result_object r c.args.sources c.args.verdict.now steps)) c.indexed.ensures,
    )
