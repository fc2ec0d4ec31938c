use Rattle.std.proofs.Common.{◌≡◌, ◌++◌, codes, decimal, sym, subst, arith}
use Rattle.std.proofs.lemmas.Grind.{common_steps}
use Rattle.kept_log.specs.Lines.{IsLine}
use Rattle.kept_session.proofs.LineLemmas.{undo_line}
use Rattle.kept_session.proofs.answering.undo_line.Goals as goal

pub returns : goal.returns
returns c =
    let text : c.append_pieces.new.out.items ≡ decimal c.args.client ++ codes " undo " ++ decimal c.args.entry = grind (arith, common_steps) in
    subst IsLine (sym text) (undo_line c.args.client c.args.entry (omega (arith, c.ranges.client.fits)) (omega (arith, c.ranges.entry.fits)))
