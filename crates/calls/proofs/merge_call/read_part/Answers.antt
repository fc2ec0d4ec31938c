use Rattle.std.proofs.Common.{ℕ, List, rules, subst, sym}
use Rattle.race_parts.specs.Merging.{ClashesIn, Gives}
use Rattle.race_parts.specs.Parts.{IfClash}
use Rattle.calls.specs.Merged.{IsUntaken}
use Rattle.calls.proofs.MergeLemmas.{untaken}
use Rattle.calls.proofs.merge_call.read_part.Goals as goal

pub returns-in-Ok-clause-err : goal.returns-in-Ok-clause-err
returns-in-Ok-clause-err g c =
    let rest = g.S.Source.rest c.args.reader.now in
    subst (IsUntaken c.args.parts.now c.args.file c.args.name.now rest) (sym c.from.ensures)
    (untaken c.args.parts.now c.args.file c.args.name.now rest c.in-Ok.text.items c.in-Err-take_file.refusal c.in-Ok.ensures.input.1 (search rules)
    (subst (λ (t : List ℕ). IfClash c.in-Err-take_file.refusal (ClashesIn c.args.parts.now c.args.name.now t c.args.file)) c.deref.ensures.value c.in-Err-take_file.ensures.clash))

pub returns-in-Ok-take_file-clause-there : goal.returns-in-Ok-take_file-clause-there
returns-in-Ok-take_file-clause-there g c =
    let there = c.in-Ok-take_file.ensures.there in
    (c.in-Ok.text.items, there.0, search rules, subst (λ (t : List ℕ). Gives c.args.name.now t there.0) c.deref.ensures.value there.1, there.2)
