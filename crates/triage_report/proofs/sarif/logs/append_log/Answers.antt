use Rattle.std.proofs.Common.{◌++◌, List, refl, subst}
use Rattle.serde_json.specs.Data.{Data}
use Rattle.race_triage.specs.declared.verdicts.Verdict.{Verdict}
use Rattle.triage_report.proofs.sarif.LogLemmas.{three_pieces}
use Rattle.triage_report.specs.sarif.Logs.{joined, rest_text, AreResults}
use Rattle.triage_report.specs.declared.sarif.logs.TheConstants.{HEAD}
use Rattle.triage_report.proofs.sarif.logs.append_log.Goals as goal

pub returns : goal.returns
returns c =
    let made = c.in_ok-append_results.ensures in
    let rest = rest_text c.args.sources.root.now c.args.chosen.now.known c.args.chosen.now.hidden in (
      HEAD.now ++ joined made.0 ++ rest,
      record {
        results = made.0;
        are_results = subst (λ (vs : List Verdict). AreResults c.args.analysis.now c.args.sources vs made.0) c.as_slice.ensures.value made.1;
        printed = refl;
      },
      three_pieces c.args.out.now.items c.extend_from_slice.new.self.items c.append_results.new.out.items c.append_rest.new.out.items HEAD.now (joined made.0) rest
          c.in_ok-extend_from_slice.ensures.items made.2 c.in_ok-append_rest.ensures,
    )
