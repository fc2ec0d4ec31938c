use Rattle.std.proofs.Common.{[], ◌∷◌, None, Some, sym, ap, ◌∙◌}
use Rattle.std.proofs.lemmas.Bool.Decides.{Decides-eqb}
use Rattle.std.proofs.lemmas.Slice.Eq.{strip_suffix_is}
use Rattle.rapid_text.specs.Reading.{named_reading, trimmed}
use Rattle.rapid_text.proofs.Operation.{operation_reading-unclosed, operation_reading-mark, operation_reading-named}
use Rattle.rapid_text.proofs.line.read_operation.Goals as goal

pub returns-in_default-strip_suffix : goal.returns-in_default-strip_suffix
returns-in_default-strip_suffix c =
    let never = strip_suffix_is Decides-eqb c.in-Some.rest.now (41 ∷ []) None c.in_default-strip_suffix.ensures.cases in
    sym (operation_reading-unclosed c.args.thread.now c.args.operation.now c.args.location.now (sym c.if-is_bound.ensures) c.in-Some.ensures.found (λ name e. never name (c.in-Some.ensures.after ∙ e)))

pub returns-then-is_bound-2 : goal.returns-then-is_bound-2
returns-then-is_bound-2 c =
    let ends = strip_suffix_is Decides-eqb c.in-Some.rest.now (41 ∷ []) (Some c.in-Some-strip_suffix.name) c.in-Some-strip_suffix.ensures.cases in
    sym (operation_reading-mark c.args.thread.now c.args.operation.now c.args.location.now (sym c.if-is_bound.ensures) c.in-Some.ensures.found
    c.in-Some-strip_suffix.name.now c.trim-word.result.now
    (sym c.in-Some.ensures.after ∙ ends)
    (c.trim-word.ensures ∙ ap trimmed c.in-Some.ensures.before)
    (sym c.if-is_bound-2.ensures))

pub returns : goal.returns
returns c =
    let ends = strip_suffix_is Decides-eqb c.in-Some.rest.now (41 ∷ []) (Some c.in-Some-strip_suffix.name) c.in-Some-strip_suffix.ensures.cases in
    let read = sym (operation_reading-named c.args.thread.now c.args.operation.now c.args.location.now (sym c.if-is_bound.ensures) c.in-Some.ensures.found
    c.in-Some-strip_suffix.name.now c.trim-word.result.now
    (sym c.in-Some.ensures.after ∙ ends)
    (c.trim-word.ensures ∙ ap trimmed c.in-Some.ensures.before)
    (sym c.if-is_bound-2.ensures)) in
    c.read_names.ensures
    ∙ ap (λ k. named_reading c.args.thread.now k c.trim.result.now c.args.location.now) c.kind_with.ensures
    ∙ ap (λ n. named_reading c.args.thread.now (Rattle.rapid_text.specs.Reading.kind_of c.trim-word.result.now) n c.args.location.now) c.trim.ensures
    ∙ read
