use Rattle.std.proofs.Common.{sym, ◌∙◌}
use Rattle.std.specs.Cmp.Lexicographic.{bytes_decides}
use Rattle.rapid_text.proofs.Guesses.{IsNumber-at}
use Rattle.rapid_text.proofs.names.is_at.Goals as goal

pub returns : goal.returns
returns c = λ is.
    let same = (bytes_decides c.as_slice.result.now c.args.name.now).0 (sym c.eq.ensures ∙ is) in
    IsNumber-at c.args.names.now.keys c.args.name.now c.args.place c.index.result.now c.len.ensures.unique c.index.ensures (sym c.as_slice.ensures.value ∙ same)
