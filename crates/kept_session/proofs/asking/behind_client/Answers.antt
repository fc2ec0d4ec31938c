use Rattle.std.proofs.Common.{◌≡◌, ◌++◌, codes, decimal, sym, subst, arith}
use Rattle.std.proofs.lemmas.Grind.{common_steps}
use Rattle.kept_log.specs.Lines.{IsLine}
use Rattle.kept_session.proofs.LineLemmas.{behind_line}
use Rattle.kept_session.proofs.asking.behind_client.Goals as goal

pub returns-clause-line : goal.returns-clause-line
returns-clause-line c =
    let text : c.append_pieces.new.out.items ≡ decimal c.args.client ++ codes " " ++ c.args.words.now = grind (arith, common_steps) in
    λ is. subst IsLine (sym text) (behind_line c.args.client c.args.words.now (omega (arith, c.ranges.client.fits)) is)
