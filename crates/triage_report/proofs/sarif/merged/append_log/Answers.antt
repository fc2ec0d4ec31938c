use Rattle.triage_report.specs.sarif.Logs.{joined, rest_text}
use Rattle.triage_report.specs.sarif.Merged.{merged_objects}
use Rattle.triage_report.specs.declared.sarif.logs.TheConstants.{HEAD}
use Rattle.triage_report.proofs.sarif.LogLemmas.{three_pieces}
use Rattle.triage_report.proofs.sarif.merged.append_log.Goals as goal

pub returns : goal.returns
returns c =
    three_pieces c.args.out.now.items c.extend_from_slice.new.self.items c.append_objects.new.out.items c.append_rest.new.out.items HEAD.now
    (joined (merged_objects c.args.parts c.args.sources c.args.pairs.now)) (rest_text c.args.sources.root.now c.args.known c.args.hidden)
    c.in_ok-extend_from_slice.ensures.items c.in_ok-append_objects.ensures c.in_ok-append_rest.ensures
