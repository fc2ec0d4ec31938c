use Rattle.std.proofs.Common.{[], ◌∷◌, Some, sym, ap, subst, ◌∙◌, arith}
use Rattle.std.proofs.lemmas.Bool.Decides.{Decides-eqb}
use Rattle.std.proofs.lemmas.Slice.Eq.{strip_suffix_is}
use Rattle.rapid_text.specs.Marking.{IsMarked}
use Rattle.rapid_text.specs.Reading.{is_bar, named_reading}
use Rattle.rapid_text.proofs.Marked.{marked-after, marked-before}
use Rattle.rapid_text.proofs.PlainLine.{plain-line}
use Rattle.rapid_text.proofs.line.read_parts.Goals as goal

pub cut_told-requires-2 : goal.cut_told-requires-2
cut_told-requires-2 c =
    let line = c.args.line.now in
    (subst (IsMarked c.behind-later.result) (sym c.in_ok-thread.ensures.after)
    (marked-after is_bar c.behind-later.result line c.in_ok-thread.thread.now c.in_ok-thread.ensures.found c.in_ok-thread.ensures.before (c.behind-later.ensures line c.requires.marked))).bars

pub cut_told-requires-3 : goal.cut_told-requires-3
cut_told-requires-3 c =
    let line = c.args.line.now in
    let rest = c.in_ok-thread.rest.now in
    let marked : IsMarked c.behind-later.result rest = subst (IsMarked c.behind-later.result) (sym c.in_ok-thread.ensures.after)
    (marked-after is_bar c.behind-later.result line c.in_ok-thread.thread.now c.in_ok-thread.ensures.found c.in_ok-thread.ensures.before (c.behind-later.ensures line c.requires.marked)) in
    (marked-before is_bar c.behind-later.result rest c.in_ok-operation.operation.now c.in_ok-operation.ensures.before marked).opens

pub returns : goal.returns
returns c =
    let line = c.args.line.now in
    let thread = c.in_ok-thread.thread.now in
    let location = c.in_ok-operation.location.now in
    let name = c.in_ok-name.name.now in
    let ends = strip_suffix_is Decides-eqb c.in_ok-word.closed.now (41 ∷ []) (Some c.in_ok-name.name) c.in_ok-name.ensures.cases in
    c.read_names.ensures
    ∙ ap (λ k. named_reading thread k name location) c.kind_with.ensures
    ∙ plain-line line thread c.in_ok-thread.rest.now c.in_ok-operation.operation.now location c.in_ok-word.word.now c.in_ok-word.closed.now name
    c.requires.plain (omega arith) c.in_ok-thread.ensures.found c.in_ok-thread.ensures.before c.in_ok-thread.ensures.after c.in_ok-operation.ensures.before c.in_ok-operation.ensures.after
    c.in_ok-word.ensures.found c.in_ok-word.ensures.before c.in_ok-word.ensures.after ends (sym c.if-is_bound.ensures) (sym c.if-is_bound-2.ensures)
