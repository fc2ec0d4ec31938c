use Rattle.std.proofs.Common.{◌≡◌, ap, ◌+◌, ℕ, List, Err, IfErr, map, rules, subst, sym}
use Rattle.race_parts.specs.Merging.{IsClash, told_of}
use Rattle.race_parts.specs.Parts.{IfClash, IsNoted}
use Rattle.race_parts.proofs.MergingLemmas.{taking_begins, taking_clash, taking_goes_on}
use Rattle.race_parts.proofs.UndoLemmas.{undone_begins, undone_on, undone_stays, undone_still}
use Rattle.race_parts.proofs.merging.take_each.Goals as goal

pub returns-in_err-take_line-clause-clash : goal.returns-in_err-take_line-clause-clash
returns-in_err-take_line-clause-clash c =
    let why = c.in_err-take_line.field-0.0 in
    let same : c.from_residual-in_err-take_line.result ≡ Err why = search rules in
    subst (λ r. IfErr r (λ refusal. IfClash refusal (IsClash c.args.parts.now c.args.file (map told_of c.args.lines.now)))) (sym same)
    (taking_clash _ _ _ _ _ _ _ _ why c.lines.invariant.0 c.first_line.ensures c.in_err-take_line.ensures.clash)

pub returns-in_err-take_line-clause-undone : goal.returns-in_err-take_line-clause-undone
returns-in_err-take_line-clause-undone c =
    undone_stays c.args.parts.now c.lines.parts c.take_line.new.parts c.text_of.result.now c.lines.added c.note_new.new.added
    c.lines.invariant.1 c.in_ok-note_new.ensures.ok c.in_err-take_line.ensures.unchanged

pub returns-in_err-note_new-clause-undone : goal.returns-in_err-note_new-clause-undone
returns-in_err-note_new-clause-undone c = undone_still c.args.parts.now c.lines.parts c.lines.added c.note_new.new.added c.lines.invariant.1 c.in_err-note_new.ensures.err

pub lines-init : goal.lines-init
lines-init c = (taking_begins c.args.parts.now c.args.file c.args.lines.now, undone_begins c.args.parts.now c.args.added.now c.requires)

pub lines-preserved : goal.lines-preserved
lines-preserved c = (
  taking_goes_on _ _ c.take_line.new.parts _ _ _ _ _ _ _ c.lines.invariant.0 c.first_line.ensures c.in_ok-take_line.ensures.ok.0 c.in_ok-take_line.ensures.ok.1
      c.in_ok-take_line.ensures.held c.in_ok-take_line.ensures.there
      (ap (λ n. n + 1) (search rules)),
  undone_on c.args.parts.now c.lines.parts c.take_line.new.parts _ c.lines.added c.note_new.new.added c.lines.invariant.1
      (subst (λ (n : List ℕ). IsNoted c.lines.parts n c.lines.added c.note_new.new.added) c.text_of.ensures c.in_ok-note_new.ensures.ok)
      c.in_ok-take_line.ensures.added,
)
