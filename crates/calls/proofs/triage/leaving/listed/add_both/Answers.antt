use Rattle.calls.proofs.triage.leaving.listed.add_both.Goals as goal

pub returns : goal.returns
returns c =
    let first = c.in_ok-add.ensures.spot in
    record {
      has = ((first.0, c.in_ok-add-2.ensures.kept c.args.cell.now.first.now first.0 first.1), c.in_ok-add-2.ensures.spot);
      kept = λ name k is. c.in_ok-add-2.ensures.kept name k (c.in_ok-add.ensures.kept name k is);
    }
