use Rattle.race_page.proofs.rows.write_titled.Goals as goal

pub returns : goal.returns
returns c = record {
  summary = c.write_summary.new.piece;
  summed = c.in_ok-write_summary.ensures;
  printed = c.in_ok-write_accesses.ensures;
}
