use Rattle.calls.specs.pair.Answers.{IsPairTold}
use Rattle.calls.proofs.pair.explaining.append_found.Goals as goal

pub returns : goal.returns
returns c =
    let told = c.in_ok-append_finding.ensures in (
      told.0,
      told.1,
      record { finding = c.args.finding.now; found = c.requires.finding; never = c.requires.never; printed = told.2 },
    )
